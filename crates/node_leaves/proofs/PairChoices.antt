-- The pair that routes choose. What comes directly after what in a route is read off its places. A link of a route that fits is
-- usable, so it is not cut; and where it isn't tied, it is undecided.
use Rattle.std.proofs.Common.{◌≡◌, ℕ, zero, suc, ◌<◌, inl, inr, true, false, arith, List, [], ◌∷◌, length, refl, sym, subst}
use Rattle.std.proofs.lemmas.Bool.{eqb-true, eq-eqb, or_cases, or_left, or_right, and_parts, both_ways}
use Rattle.std.specs.Cmp.Derive.{both_true}
use Rattle.std.proofs.lemmas.List.Elements.{All-contains}
use Rattle.std.specs.Prelude.{nat_eq, ◌&&◌, Contains, slice_index_or}
use Rattle.tail_book.specs.Seen.{BookSeen}
use Rattle.tail_book.specs.declared.place.Place.{Place}
use Rattle.tail_book.specs.declared.place.Place.TheVariants.{Carry, After}
use Rattle.tail_book.specs.Lookup.{aircraft}
use Rattle.branch_marks.specs.declared.fact.Fact.{Fact}
use Rattle.branch_marks.specs.declared.fact.Fact.TheVariants.{Cut}
use Rattle.branch_marks.specs.declared.fact.Pair.{Pair}
use Rattle.branch_marks.specs.declared.fact.Pair.TheVariants.{Fly, Link}
use Rattle.branch_marks.specs.Branches.{IsUndecided}
use Rattle.branch_marks.specs.Facts.{directly}
use Rattle.branch_marks.specs.Marks.{LetsGo, IsUsable, FitsFrom, Fits}
use Rattle.dive_heuristic.specs.Choice.{IsCarrierOf}
use Rattle.node_leaves.specs.Choice.{IsPairAt}

-- the activity behind a place of a route comes directly after the one at it
pub directly_at : (route : List ℕ) (i : ℕ) → suc i < length route → directly route (slice_index_or route i 0) (slice_index_or route (suc i) 0) ≡ true
directly_at [] i lt = absurd (omega (arith, lt))
directly_at (x ∷ []) i lt = absurd (omega (arith, lt))
directly_at (x ∷ y ∷ rest) zero lt = or_left (nat_eq x x && nat_eq y y) (directly (y ∷ rest) x y) (both_true (eq-eqb x x refl) (eq-eqb y y refl))
directly_at (x ∷ y ∷ rest) (suc i) lt =
    or_right (nat_eq (slice_index_or (y ∷ rest) i 0) x && nat_eq (slice_index_or (y ∷ rest) (suc i) 0) y)
    (directly (y ∷ rest) (slice_index_or (y ∷ rest) i 0) (slice_index_or (y ∷ rest) (suc i) 0)) (directly_at (y ∷ rest) i (omega (arith, lt)))

-- and where one comes directly after another, it is so at some place
pub directly_where : (route : List ℕ) (x a : ℕ) → directly route x a ≡ true
    → (i : ℕ) × (suc i < length route) × (slice_index_or route i 0 ≡ x) × (slice_index_or route (suc i) 0 ≡ a)
directly_where [] x a h = absurd (both_ways false refl h)
directly_where (first ∷ []) x a h = elim (or_cases (nat_eq x first && false) false h) [
  | inl here ↦ absurd (both_ways false refl (and_parts (nat_eq x first) false here).1)
  | inr there ↦ absurd (both_ways false refl there)
]
directly_where (first ∷ second ∷ rest) x a h = elim (or_cases (nat_eq x first && nat_eq a second) (directly (second ∷ rest) x a) h) [
  | inl here ↦ (let parts = and_parts (nat_eq x first) (nat_eq a second) here in
      (0, omega arith, sym (eqb-true x first parts.0), sym (eqb-true a second parts.1)))
  | inr there ↦ (let (i, lt, at, then) = directly_where (second ∷ rest) x a there in (suc i, omega (arith, lt), at, then))
]

module _ (book : BookSeen) (marks : List Fact) (k : ℕ) where
  -- a link of a route that fits is usable
  pub usable_along : (y : Place) (route : List ℕ) (x a : ℕ) → FitsFrom book marks k y route → directly route x a ≡ true → IsUsable book marks k (After x) a
  usable_along y [] x a fits h = absurd (both_ways false refl h)
  usable_along y (first ∷ []) x a fits h = elim (or_cases (nat_eq x first && false) false h) [
    | inl here ↦ absurd (both_ways false refl (and_parts (nat_eq x first) false here).1)
    | inr there ↦ absurd (both_ways false refl there)
  ]
  usable_along y (first ∷ second ∷ rest) x a fits h = elim (or_cases (nat_eq x first && nat_eq a second) (directly (second ∷ rest) x a) h) [
    | inl here ↦ (let parts = and_parts (nat_eq x first) (nat_eq a second) here in
        subst (λ (z : ℕ). IsUsable book marks k (After z) a) (sym (eqb-true x first parts.0))
        (subst (λ (z : ℕ). IsUsable book marks k (After first) z) (sym (eqb-true a second parts.1)) fits.1.0))
    | inr there ↦ usable_along (After first) (second ∷ rest) x a fits.1 there
  ]

  -- what is usable is not cut
  not_cut : (x a : ℕ) → IsUsable book marks k (After x) a → ¬ Contains marks (Cut x a)
  not_cut x a usable cut = All-contains (LetsGo k (After x) a) marks (Cut x a) usable.facts cut refl refl

  -- the pair at an activity of a route that fits is undecided where the aircraft's own is
  pub pair_undecided : (route : List ℕ) (a : ℕ) → k < aircraft book → Fits book marks k route → IsUndecided book marks (Fly k a) → (pair : Pair)
      → IsPairAt marks route k a pair → IsUndecided book marks pair
  pair_undecided route a lt fits flies (Fly j b) is =
      subst (λ (i : ℕ). IsUndecided book marks (Fly i b)) (sym is.0) (subst (λ (c : ℕ). IsUndecided book marks (Fly k c)) (sym is.1) flies)
  pair_undecided route a lt fits flies (Link x b) is =
      subst (λ (c : ℕ). IsUndecided book marks (Link x c)) (sym is.0)
      (let usable = usable_along Carry route x a fits is.1 in ((k, lt, usable), not_cut x a usable, is.2))

-- who is to fly something is of the book
pub carrier_of_book : (book : BookSeen) (marks : List Fact) (routes : List (List ℕ)) (a k : ℕ) → IsCarrierOf book marks routes a k → k < aircraft book
carrier_of_book book marks routes a k (inl least) = least.of_book
carrier_of_book book marks routes a k (inr least) = least.1.of_book
