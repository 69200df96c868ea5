-- The bound of a closed family, whatever a link adds to a weight: along any legal route that fits, a member covers the route's
-- label, and so at its end a member that may end there is at most as heavy as the route.
use Rattle.std.proofs.Common.{ℕ, ℤ, pos, ◌+ℤ◌, ◌≤ℤ◌, arith, List, [], ◌∷◌, subst}
use Rattle.std.proofs.lemmas.Int.{ints}
use Rattle.tail_book.specs.Seen.{BookSeen}
use Rattle.tail_book.specs.declared.place.Place.{Place}
use Rattle.tail_book.specs.declared.place.Place.TheVariants.{Carry, After}
use Rattle.tail_book.specs.Lookup.{carry_of}
use Rattle.tail_book.specs.Counters.{step}
use Rattle.tail_book.specs.CounterOrder.{EachAtMost}
use Rattle.tail_book.specs.inside.Order.{EachAtMostItself, EachAtMostChains, StepsKeepOrder, LowerStaysWithin}
use Rattle.tail_book.specs.Route.{IsLegalFrom}
use Rattle.branch_marks.specs.declared.fact.Fact.{Fact}
use Rattle.branch_marks.specs.Marks.{FitsFrom, MayEnd}
use Rattle.branch_marks.specs.Labels.{Label}
use Rattle.branch_marks.specs.Families.{EndsAtLeast}
use Rattle.fee_pricing.specs.Arcs.{arcs_from, GoesOnBy, IsClosedBy, WeighsAtLeastBy}

module _ (itself : EachAtMostItself) (chains : EachAtMostChains) (order : StepsKeepOrder) (within : LowerStaysWithin)
    (arc : Place → ℕ → ℤ) (book : BookSeen) (marks : List Fact) (k : ℕ) (family : List Label) (low : ℤ)
    (closed : IsClosedBy arc book marks k family) (ends : EndsAtLeast marks k family low) where
  -- from a place on, with a weight and counters from which the family goes on, at most those of the route there
  along : (x : Place) (near so_far : ℤ) (values others : List ℤ) (rest : List ℕ)
      → near ≤ℤ so_far → EachAtMost values others → GoesOnBy arc book marks k family x near values → (MayEnd marks k x → low ≤ℤ near)
      → IsLegalFrom book k x others rest → FitsFrom book marks k x rest
      → low ≤ℤ (so_far +ℤ arcs_from arc x rest)
  along x near so_far values others [] light lower goes may legal fits = let h = may fits in omega (arith, ints, h, light)
  along x near so_far values others (b ∷ rest) light lower goes may legal fits =
      let lowered = order book k x b values others lower in
      let covered = goes b legal.0 fits.0 (within book.rules.counters (step book k x b values) (step book k x b others) lowered legal.2) in
      let (i, member, lt, at, covers) = covered in
      let goes_on : GoesOnBy arc book marks k family (After member.at) member.weight member.counters =
      subst (λ (m : Label). GoesOnBy arc book marks k family (After m.at) m.weight m.counters) at (closed.next i member lt) in
      let may_end : MayEnd marks k (After member.at) → low ≤ℤ member.weight =
      subst (λ (m : Label). MayEnd marks k (After m.at) → low ≤ℤ m.weight) at (ends.members i member lt) in
      let lighter = covers.weight in
      let h = along (After b) member.weight (so_far +ℤ arc x b) member.counters (step book k x b others) rest
      (omega (arith, ints, lighter, light))
      (chains member.counters (step book k x b values) (step book k x b others) covers.counters lowered)
      (subst (λ (a : ℕ). GoesOnBy arc book marks k family (After a) member.weight member.counters) covers.at goes_on)
      (subst (λ (a : ℕ). MayEnd marks k (After a) → low ≤ℤ member.weight) covers.at may_end) legal.3 fits.1 in
      omega (arith, ints, h)

  pub family_bound : WeighsAtLeastBy arc book marks k low
  family_bound route legal fits =
      let h = along Carry (pos 0) (pos 0) (carry_of book k) (carry_of book k) route (omega (arith, ints)) (itself (carry_of book k)) closed.first ends.first legal fits in
      omega (arith, ints, h)
