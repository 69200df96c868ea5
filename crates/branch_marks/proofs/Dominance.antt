-- Dominance, and the bound of a closed family: along any legal route that fits, a member covers the route's label, and so at
-- its end a member that may end there is at most as heavy as the route.
use Rattle.std.proofs.Common.{ℕ, ℤ, pos, ◌+ℤ◌, ◌≤ℤ◌, arith, List, [], ◌∷◌, subst}
use Rattle.std.proofs.lemmas.Int.{ints}
use Rattle.tail_book.specs.Seen.{BookSeen}
use Rattle.tail_book.specs.TableSeen.{CostTableSeen}
use Rattle.tail_book.specs.declared.place.Place.{Place}
use Rattle.tail_book.specs.declared.place.Place.TheVariants.{Carry, After}
use Rattle.tail_book.specs.Lookup.{carry_of}
use Rattle.tail_book.specs.Counters.{step}
use Rattle.tail_book.specs.CounterOrder.{EachAtMost}
use Rattle.tail_book.specs.inside.Order.{EachAtMostItself, EachAtMostChains, StepsKeepOrder, LowerStaysWithin}
use Rattle.tail_book.specs.Route.{IsLegalFrom}
use Rattle.branch_marks.specs.declared.fact.Fact.{Fact}
use Rattle.branch_marks.specs.Marks.{FitsFrom, MayEnd}
use Rattle.branch_marks.specs.Weights.{arc_weight, weight, weight_from, WeightIsAlong, WeighsAtLeast}
use Rattle.branch_marks.specs.DeadEnds.{IsStuck}
use Rattle.branch_marks.specs.Labels.{Label, Covers, label_step, StepsWithin}
use Rattle.branch_marks.specs.Families.{GoesOn, IsClosedFamily, EndsAtLeast, HasNoEnd, ClosedFamiliesBound}

pub covers_itself : EachAtMostItself → (label : Label) → Covers label label
covers_itself itself label = record { at = λ i. label.at; weight = omega (arith, ints); counters = itself label.counters }

pub covers_chain : EachAtMostChains → (label middle other : Label) → Covers label middle → Covers middle other → Covers label other
covers_chain chains label middle other one two =
    let at = one.at in
    let and_at = two.at in
    let lighter = one.weight in
    let and_lighter = two.weight in
    record {
      at = cc;
      weight = omega (arith, ints, lighter, and_lighter);
      counters = chains label.counters middle.counters other.counters one.counters two.counters;
    }

step_covered : StepsKeepOrder → LowerStaysWithin → (table : CostTableSeen) (book : BookSeen) (k : ℕ) (duals : List ℤ) (x : ℕ) (one other : ℤ) (values others : List ℤ) (b : ℕ)
    → one ≤ℤ other → EachAtMost values others → StepsWithin book k (record { at = x; weight = other; counters = others }) b
    → StepsWithin book k (record { at = x; weight = one; counters = values }) b
    × Covers (label_step table book k duals (record { at = x; weight = one; counters = values }) b) (label_step table book k duals (record { at = x; weight = other; counters = others }) b)
step_covered order within table book k duals x one other values others b light lower steps =
    let lowered = order book k (After x) b values others lower in (
      within book.rules.counters (step book k (After x) b values) (step book k (After x) b others) lowered steps,
      record { at = λ i. b; weight = omega (arith, ints, light); counters = lowered },
    )

pub steps_covered : StepsKeepOrder → LowerStaysWithin → (table : CostTableSeen) (book : BookSeen) (k : ℕ) (duals : List ℤ) (label other : Label) (b : ℕ) → Covers label other
    → StepsWithin book k other b → StepsWithin book k label b × Covers (label_step table book k duals label b) (label_step table book k duals other b)
steps_covered order within table book k duals label other b covers steps =
    subst (λ (y : ℕ). StepsWithin book k (record { at = y; weight = other.weight; counters = other.counters }) b → StepsWithin book k label b
    × Covers (label_step table book k duals label b) (label_step table book k duals (record { at = y; weight = other.weight; counters = other.counters }) b)) covers.at
    (step_covered order within table book k duals label.at label.weight other.weight label.counters other.counters b covers.weight covers.counters) steps

module _ (itself : EachAtMostItself) (chains : EachAtMostChains) (order : StepsKeepOrder) (within : LowerStaysWithin) (along_weight : WeightIsAlong)
    (table : CostTableSeen) (book : BookSeen) (marks : List Fact) (k : ℕ) (duals : List ℤ) (family : List Label) (low : ℤ)
    (closed : IsClosedFamily table book marks k duals family) (ends : EndsAtLeast marks k family low) where
  -- from a place on, with a weight and counters from which the family goes on, at most those of the route there
  along : (x : Place) (near so_far : ℤ) (values others : List ℤ) (rest : List ℕ)
      → near ≤ℤ so_far → EachAtMost values others → GoesOn table book marks k duals family x near values → (MayEnd marks k x → low ≤ℤ near)
      → IsLegalFrom book k x others rest → FitsFrom book marks k x rest
      → low ≤ℤ (so_far +ℤ weight_from table book k duals x rest)
  along x near so_far values others [] light lower goes may legal fits = let h = may fits in omega (arith, ints, h, light)
  along x near so_far values others (b ∷ rest) light lower goes may legal fits =
      let lowered = order book k x b values others lower in
      let covered = goes b legal.0 fits.0 (within book.rules.counters (step book k x b values) (step book k x b others) lowered legal.2) in
      let (i, member, lt, at, covers) = covered in
      let goes_on : GoesOn table book marks k duals family (After member.at) member.weight member.counters =
      subst (λ (m : Label). GoesOn table book marks k duals family (After m.at) m.weight m.counters) at (closed.next i member lt) in
      let may_end : MayEnd marks k (After member.at) → low ≤ℤ member.weight =
      subst (λ (m : Label). MayEnd marks k (After m.at) → low ≤ℤ m.weight) at (ends.members i member lt) in
      let lighter = covers.weight in
      let h = along (After b) member.weight (so_far +ℤ arc_weight table book k duals x b) member.counters (step book k x b others) rest
      (omega (arith, ints, lighter, light))
      (chains member.counters (step book k x b values) (step book k x b others) covers.counters lowered)
      (subst (λ (a : ℕ). GoesOn table book marks k duals family (After a) member.weight member.counters) covers.at goes_on)
      (subst (λ (a : ℕ). MayEnd marks k (After a) → low ≤ℤ member.weight) covers.at may_end) legal.3 fits.1 in
      omega (arith, ints, h)

  pub family_bound : WeighsAtLeast table book marks k duals low
  family_bound route legal fits =
      let h = along Carry (pos 0) (pos 0) (carry_of book k) (carry_of book k) route (omega (arith, ints)) (itself (carry_of book k)) closed.first ends.first legal fits in
      rw (along_weight table book k duals route) (omega (arith, ints, h))

-- a family without an end would bound the weight of a route by every number
below_itself : (z : ℤ) → ((low : ℤ) → low ≤ℤ z) → ⊥
below_itself z h = let k = h (z +ℤ pos 1) in absurd (omega (arith, ints, k))

pub endless_sticks : ClosedFamiliesBound → (table : CostTableSeen) (book : BookSeen) (marks : List Fact) (k : ℕ) (duals : List ℤ) (family : List Label)
    → IsClosedFamily table book marks k duals family → HasNoEnd marks k family → IsStuck book marks k
endless_sticks bound table book marks k duals family closed none route legal fits =
    below_itself (weight table book k duals route) (λ low.
    bound table book marks k duals family low closed
    (record { first = λ may. absurd (none.first may); members = λ i d lt may. absurd (none.members i d lt may) }) route legal fits)
