-- A bucket compacted in place. What is kept: the front is what stays of the first q places, and from q on nothing has
-- moved. A number that goes leaves the front as it is; one that stays is written at the end of the front, which is at q
-- or before, so nothing is overwritten that is still to be read. At the end the front is what the filter keeps. One
-- more row in the store changes no row before it, so the same ones stay.
use Rattle.std.proofs.Common.{◌≡◌, ◌≢◌, ℕ, ◌+◌, ◌<◌, ◌≤◌, arith, refl, true, false, Bool, cond, List, [], ◌∷◌, ◌++◌, length, get_or, set, take, sym, ◌∙◌, ap, ap₂, subst, ℤ, get_or-set_other}
use Rattle.std.specs.Prelude.{All, not}
use Rattle.std.specs.List.{filter, AllByRecursion}
use Rattle.tail_book.specs.CounterOrder.{each_at_most}
use Rattle.label_store.specs.Buckets.{stays_beside}
use Rattle.std.proofs.lemmas.List.{length-set, take_all, take_more_set, append-nil, get_or_append_left}
use Rattle.std.proofs.lemmas.List.Elements.{filter_more, All-weaker, recursion_from_All}

-- the front of now is what stays of the first q places of old, and from q on nothing has moved
pub record Compacts (stays : ℕ → Bool) (old now : List ℕ) (kept q : ℕ) : Type 0 where
  pub order : kept ≤ q
  pub same : length now ≡ length old
  pub front : take kept now ≡ filter stays (take q old)
  pub rest : (r : ℕ) → q ≤ r → get_or now r 0 ≡ get_or old r 0

module _ (stays : ℕ → Bool) (old now : List ℕ) (kept q : ℕ) (so_far : Compacts stays old now kept q) (below : q < length old)
    (j : ℕ) (read : j ≡ get_or now q 0) where
  is_old : get_or old q 0 ≡ j
  is_old = sym (so_far.rest q (omega arith)) ∙ sym read

  one_more : (stay : Bool) → stays j ≡ stay → filter stays (take (q + 1) old) ≡ take kept now ++ cond stay (j ∷ []) []
  one_more stay is =
      filter_more stays old q 0 below
      ∙ ap₂ (λ front i. front ++ cond (stays i) (i ∷ []) []) (sym so_far.front) is_old
      ∙ ap (λ b. take kept now ++ cond b (j ∷ []) []) is

  -- a number that goes leaves the front as it is
  pub compact_drop : stays j ≡ false → Compacts stays old now kept (q + 1)
  compact_drop goes = record {
    order = omega (arith, so_far.order);
    same = so_far.same;
    front = sym (one_more false goes ∙ append-nil (take kept now));
    rest = λ r le. so_far.rest r (omega (arith, le));
  }

  -- one that stays comes to the end of the front
  pub compact_keep : stays j ≡ true → Compacts stays old (set now kept j) (kept + 1) (q + 1)
  compact_keep stay =
      let order = so_far.order in
      let room : kept < length now = omega (arith, order, below, so_far.same) in
      record {
        order = omega (arith, order);
        same = length-set now kept j ∙ so_far.same;
        front = take_more_set now kept j room ∙ sym (one_more true stay);
        rest = λ r le.
            let other : r ≢ kept = omega (arith, le, order) in
            get_or-set_other now kept r j 0 other ∙ so_far.rest r (omega (arith, le));
      }

-- at the end the front is what stays
pub compacted : (stays : ℕ → Bool) (old now : List ℕ) (kept q : ℕ) → Compacts stays old now kept q → q ≡ length old → take kept now ≡ filter stays old
compacted stays old now kept q all end = all.front ∙ ap (filter stays) (take_all q old (omega (arith, end)))

-- the same under other names
pub same_compacts : (stays : ℕ → Bool) (old now later : List ℕ) (kept more q : ℕ) → Compacts stays old now kept q → later ≡ now → more ≡ kept
    → Compacts stays old later more q
same_compacts stays old now later kept more q moved same one =
    subst (λ m. Compacts stays old later m q) (sym one) (subst (λ l. Compacts stays old l kept q) (sym same) moved)

-- where two tests say the same of each number, the same ones stay
filter_alike : (p r : ℕ → Bool) (xs : List ℕ) → AllByRecursion (λ j. p j ≡ r j) xs → filter p xs ≡ filter r xs
filter_alike p r [] alike = refl
filter_alike p r (x ∷ xs) alike = ap₂ (λ b rest. cond b (x ∷ rest) rest) alike.0 (filter_alike p r xs alike.1)

-- one more row changes nothing of what stays among those before it
pub stay_alike : (rows more : List (List ℤ)) (bucket : List ℕ) (row : List ℤ) → All (λ j. j < length rows) bucket → more ≡ rows ++ row ∷ []
    → filter (stays_beside more row) bucket ≡ filter (stays_beside rows row) bucket
stay_alike rows more bucket row numbers is =
    filter_alike _ _ bucket
    (recursion_from_All (λ j. stays_beside more row j ≡ stays_beside rows row j) bucket
    (All-weaker _ _ (λ j below. ap (λ r. not (each_at_most row r)) (ap (λ m. get_or m j []) is ∙ get_or_append_left rows (row ∷ []) [] j below)) bucket numbers))
