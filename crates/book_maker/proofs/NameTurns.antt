-- The turns of the loops over names: what is left decides.
--
-- A name that the set has leaves it as it is, and another one goes to its end: that is what the definition does with
-- its list of names.
use Rattle.std.proofs.Common.{◌≡◌, ◌∙◌, ℕ, ◌+◌, ◌<◌, ◌≤◌, true, false, List, [], ◌∷◌, ◌++◌, length, take, drop, get_or, refl, arith, Bool, not, sym, length-append, if◌then◌else◌}
use Rattle.std.proofs.lemmas.List.{drop_all, drop_more, take_more}
use Rattle.std.specs.List.{list_any}
use Rattle.std.specs.Str.{bytes_eq}
use Rattle.book_maker.specs.NameNumbers.{distinct_from, distinct_names, is_among, with_name}

module _ (names : List (List ℕ)) (i : ℕ) (x : List ℕ) (within : i < length names) (here : x ≡ get_or names i x) where
  next : drop i names ≡ x ∷ drop (i + 1) names
  next = drop_more names i x within ∙ rw (← here) refl

  pub taken : take (i + 1) names ≡ take i names ++ x ∷ []
  taken = take_more names i x within ∙ rw (← here) refl

  -- a name goes into the set
  pub distinct-next : (seen : List (List ℕ)) → distinct_from seen (drop i names) ≡ distinct_from (with_name seen x) (drop (i + 1) names)
  unfolding distinct_from
  distinct-next seen = rw next refl

-- behind the last name the set stays
pub distinct-end : (names seen : List (List ℕ)) (i : ℕ) → length names ≤ i → distinct_from seen (drop i names) ≡ seen
unfolding distinct_from
distinct-end names seen i h = rw (drop_all i names h) refl

pub is_new : (seen : List (List ℕ)) (x : List ℕ) (added : Bool) → added ≡ not (list_any (bytes_eq x) seen) → added ≡ true → list_any (bytes_eq x) seen ≡ false
is_new seen x added e here = flipped (list_any (bytes_eq x) seen) (sym e ∙ here)
  where
    flipped : (b : Bool) → not b ≡ true → b ≡ false
    flipped true h = sym h
    flipped false h = refl

few : (names xs : List (List ℕ)) → length (distinct_from names xs) ≤ length names + length xs
unfolding distinct_from
few names [] = omega arith
few names (x ∷ xs) = omega (arith, few (with_name names x) xs, one (is_among names x))
  where
    one : (t : Bool) → length (if t then names else names ++ x ∷ []) ≤ length names + 1
    one true = omega arith
    one false = omega (arith, length-append names (x ∷ []))

-- there are no more distinct names than names
pub distinct_names-few : (xs : List (List ℕ)) → length (distinct_names xs) ≤ length xs
distinct_names-few xs = omega (arith, few [] xs)
