-- Routes that parents spell. A parent has a smaller number than its row, so that as many turns as that number are enough, and
-- rows that come later change no route.
use Rattle.std.proofs.Common.{◌≡◌, ℕ, zero, suc, ◌<◌, ◌≤◌, arith, refl, List, [], ◌∷◌, ◌++◌, length, Option, None, Some, ◌∙◌, ap}
use Rattle.std.specs.Prelude.{IfSome}
use Rattle.label_store.specs.Seen.{StoreSeen}
use Rattle.label_store.specs.Store.{parent_of, node_of}
use Rattle.label_store.specs.inside.Laws.{KeepsRows}
use Rattle.pricing.specs.Rows.{route_within, route_to}
use Rattle.pricing.specs.inside.Truth.{IsKept}

below_more : (row : Option ℕ) (m n : ℕ) → m ≤ n → IfSome row (λ j. j < m) → IfSome row (λ j. j < n)
below_more None m n le below = tt
below_more (Some j) m n le below = omega (arith, le, below)

-- each row's parent has a smaller number
abbrev ParentsAreBelow : StoreSeen → Type 0
ParentsAreBelow store = (i : ℕ) → i < length store.rows → IfSome (parent_of store i) (λ j. j < i)

module _ (store : StoreSeen) (below : ParentsAreBelow store) where
  parent_is_kept : (j : ℕ) → j < length store.rows → IsKept store (parent_of store j)
  parent_is_kept j kept = below_more (parent_of store j) j (length store.rows) (omega (arith, kept)) (below j kept)

  enough : (n m : ℕ) (row : Option ℕ) → IfSome row (λ j. j < n) → IfSome row (λ j. j < m) → IsKept store row
      → route_within n store row ≡ route_within m store row
  unfolding route_within
  enough zero zero row few other kept = refl
  enough zero (suc m) None few other kept = refl
  enough zero (suc m) (Some j) few other kept = absurd (omega (arith, few))
  enough (suc n) zero None few other kept = refl
  enough (suc n) zero (Some j) few other kept = absurd (omega (arith, other))
  enough (suc n) (suc m) None few other kept = refl
  enough (suc n) (suc m) (Some j) few other kept =
      let parent = parent_of store j in
      let from = below j kept in
      ap (λ (r : List ℕ). r ++ node_of store j ∷ []) (enough n m parent (below_more parent j n (omega (arith, few)) from)
      (below_more parent j m (omega (arith, other)) from) (parent_is_kept j kept))

  within_is : (n : ℕ) (row : Option ℕ) → IfSome row (λ j. j < n) → IsKept store row → route_within n store row ≡ route_to store row
  unfolding route_within
  within_is zero None few kept = refl
  within_is (suc n) None few kept = refl
  within_is n (Some j) few kept = enough n (suc j) (Some j) few (omega arith) kept

  -- the route to a row is that to its parent, and its node
  pub route_of_row : (j : ℕ) → j < length store.rows → route_to store (Some j) ≡ route_to store (parent_of store j) ++ node_of store j ∷ []
  unfolding route_within
  route_of_row j kept =
      let parent = parent_of store j in
      let from = below j kept in
      ap (λ (r : List ℕ). r ++ node_of store j ∷ []) (within_is j parent from (parent_is_kept j kept))

module _ (old new : StoreSeen) (keeps : KeepsRows old new) (below : ParentsAreBelow old) where
  same_within : (n : ℕ) (row : Option ℕ) → IsKept old row → route_within n new row ≡ route_within n old row
  unfolding route_within
  same_within zero row kept = refl
  same_within (suc n) None kept = refl
  same_within (suc n) (Some j) kept =
      let parent = parent_of old j in
      ap (λ (r : List ℕ). r ++ node_of new j ∷ []) (ap (route_within n new) (keeps.parents j kept)
      ∙ same_within n parent (below_more parent j (length old.rows) (omega (arith, kept)) (below j kept)))
      ∙ ap (λ (a : ℕ). route_within n old parent ++ a ∷ []) (keeps.nodes j kept)

  pub same_route : (row : Option ℕ) → IsKept old row → route_to new row ≡ route_to old row
  same_route None kept = refl
  same_route (Some j) kept = same_within (suc j) (Some j) kept
