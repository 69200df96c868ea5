-- Entries one after the other: what is found so far stands before what the entries give that are left.
--
-- A turn of the loop moves one entry across, and its name to the names so far. The first entry that is refused decides,
-- at the place that counts the entries before it.
use Rattle.std.proofs.Common.{◌≡◌, ◌∙◌, ◌<◌, ◌≤◌, ℕ, ◌+◌, List, [], ◌∷◌, ◌++◌, Option, Result, Ok, Err, length, get_or, drop, refl, ap, arith}
use Rattle.std.proofs.lemmas.List.{append-nil, drop_all, drop_more}
use Rattle.tail_text.specs.Checks.{must}
use Rattle.tail_text.specs.Reading.{refusal_at}
use Rattle.tail_text.specs.declared.codes.TheConstants.{TWICE}
use Rattle.tail_text.specs.declared.refusal.Table.{Table}
use Rattle.tail_text.specs.inside.Joined.{joined, joined-bad, joined-good}
use Rattle.table_records.specs.Table.{placed}
use Rattle.book_maker.specs.LookedUp.{looked_up_from, looked_up_in, is_new, with_own}
use Rattle.book_maker.specs.inside.LookedUp.{names_after}

module _ {A B : Type 0} (table : Table) (own_name : A → Option (List ℕ)) (uses : A → Result B ℕ) (first : ℕ) (entries : List A)
    (i : ℕ) (names : List (List ℕ)) (found : List B)
    (known : looked_up_in table first own_name uses entries ≡ joined found (looked_up_from table own_name uses (first + i) names (drop i entries)))
    (named : names_after own_name [] entries ≡ names_after own_name names (drop i entries)) where
  module _ (x : A) (within : i < length entries) (here : x ≡ get_or entries i x) where
    ahead : drop i entries ≡ x ∷ drop (i + 1) entries
    ahead = drop_more entries i x within ∙ rw (← here) refl

    next : looked_up_in table first own_name uses entries ≡ joined found (looked_up_from table own_name uses (first + i) names (x ∷ drop (i + 1) entries))
    next = known ∙ ap (λ more. joined found (looked_up_from table own_name uses (first + i) names more)) ahead

    -- an entry that gives nothing decides
    pub entry-bad : (code : ℕ) → must (is_new names (own_name x)) TWICE (uses x) ≡ Err code
        → looked_up_in table first own_name uses entries ≡ Err (refusal_at code table (first + i))
    unfolding looked_up_from
    entry-bad code e =
        let refused : Err (refusal_at code table (first + i)) ≡ placed table (first + i) (must (is_new names (own_name x)) TWICE (uses x)) = rw e refl in
        next ∙ joined-bad found _ _ _ refused

    -- what an entry gives joins what is found
    pub entry-good : (b : B) → must (is_new names (own_name x)) TWICE (uses x) ≡ Ok b
        → looked_up_in table first own_name uses entries
        ≡ joined (found ++ b ∷ []) (looked_up_from table own_name uses (first + (i + 1)) (with_own names (own_name x)) (drop (i + 1) entries))
    unfolding looked_up_from
    entry-good b e =
        let place : first + (i + 1) ≡ first + i + 1 = omega arith in
        let given : Ok b ≡ placed table (first + i) (must (is_new names (own_name x)) TWICE (uses x)) = rw e refl in
        next ∙ rw place (joined-good found _ _ b given)

    pub names-next : names_after own_name [] entries ≡ names_after own_name (with_own names (own_name x)) (drop (i + 1) entries)
    unfolding names_after
    names-next = named ∙ ap (names_after own_name names) ahead

  -- behind the last entry all is found
  pub entry-end : length entries ≤ i → looked_up_in table first own_name uses entries ≡ Ok found
  unfolding looked_up_from
  entry-end h = known ∙ ap (λ more. joined found (looked_up_from table own_name uses (first + i) names more)) (drop_all i entries h) ∙ rw append-nil refl

  pub names-end : length entries ≤ i → names_after own_name [] entries ≡ names
  unfolding names_after
  names-end h = named ∙ ap (names_after own_name names) (drop_all i entries h)
