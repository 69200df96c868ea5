-- Where the fewer facts are among the more, what holds of all of the more holds of all of the fewer. Alive, usable, where to
-- end and so what fits are such things, link by link along a route. A bound on all routes that fit the fewer then bounds
-- those that fit the more, of which the lightest is one; and sums keep the order of what they add.
use Rattle.std.proofs.Common.{ℕ, ℤ, pos, negsuc, ◌+ℤ◌, ◌≤◌, ◌≤ℤ◌, ◌<◌, arith, List, [], ◌∷◌, ◌++◌, ◌∙◌, sym, subst}
use Rattle.std.proofs.lemmas.Int.{ints}
use Rattle.std.proofs.lemmas.List.Elements.{All-contains, All-contains_itself, All-weaker, Contains-append_left}
use Rattle.std.specs.Prelude.{All, Contains}
use Rattle.tail_book.specs.Seen.{BookSeen}
use Rattle.tail_book.specs.TableSeen.{CostTableSeen}
use Rattle.tail_book.specs.declared.place.Place.{Place}
use Rattle.tail_book.specs.declared.place.Place.TheVariants.{Carry, After}
use Rattle.tail_book.specs.Lookup.{aircraft}
use Rattle.tail_book.specs.Sums.{total}
use Rattle.branch_marks.specs.declared.fact.Fact.{Fact}
use Rattle.branch_marks.specs.Marks.{LetsFly, LetsGo, LetsEnd, IsAlive, IsAliveAt, IsUsable, FitsFrom}
use Rattle.branch_marks.specs.Weights.{IsLeastWeight, WeighsAtLeast}
use Rattle.branch_marks.specs.Bound.{value_of, AreLowWeights, AreLeastWeights, lagrangian, bound_of, rounded_up, RoundedUpIsLeast}
use Rattle.branch_marks.specs.inside.MoreFacts.{AreAmong, OpensNothing, LowWeightsStay, HasNotFallen}
use Rattle.branch_marks.proofs.Settled.{total_below}

pub among_added : (marks facts : List Fact) → AreAmong marks (marks ++ facts)
among_added marks facts = All-weaker (Contains marks) (Contains (marks ++ facts)) (Contains-append_left marks facts) marks (All-contains_itself marks)

-- what is true of all of the more is true of all of the fewer
pub of_fewer : (P : Fact → Type 0) (fewer more : List Fact) → AreAmong fewer more → All P more → All P fewer
of_fewer P fewer more among all = All-weaker (Contains more) P (λ fact at. All-contains P more fact all at) fewer among

module _ (book : BookSeen) (fewer more : List Fact) (among : AreAmong fewer more) where
  alive_before : (k a : ℕ) → IsAlive book more k a → IsAlive book fewer k a
  alive_before k a h = record { allowed = h.allowed; facts = of_fewer (LetsFly k a) fewer more among h.facts }

  alive_at_before : (k : ℕ) (x : Place) → IsAliveAt book more k x → IsAliveAt book fewer k x
  alive_at_before k Carry h = tt
  alive_at_before k (After x) h = alive_before k x h

  usable_before : (k : ℕ) (x : Place) (b : ℕ) → IsUsable book more k x b → IsUsable book fewer k x b
  usable_before k x b h = record {
    link = h.link;
    before = alive_at_before k x h.before;
    after = alive_before k b h.after;
    facts = of_fewer (LetsGo k x b) fewer more among h.facts;
  }

  fits_before : (k : ℕ) (x : Place) (route : List ℕ) → FitsFrom book more k x route → FitsFrom book fewer k x route
  fits_before k x [] end = of_fewer (LetsEnd k x) fewer more among end
  fits_before k x (b ∷ rest) fits = (usable_before k x b fits.0, fits_before k (After b) rest fits.1)

  pub opens_nothing : OpensNothing book fewer more
  opens_nothing = record {
    alive = alive_before;
    usable = usable_before;
    ends = λ k x end. of_fewer (LetsEnd k x) fewer more among end;
    routes = λ k route fits. fits_before k Carry route fits;
  }

bound_keeps_order : (old new : ℤ) → old ≤ℤ new → bound_of old ≤ bound_of new
bound_keeps_order (pos m) (pos n) h = omega (arith, ints, h)
bound_keeps_order (pos m) (negsuc n) h = absurd (omega (arith, ints, h))
bound_keeps_order (negsuc m) new h = omega arith

-- the old sum is at most as many cost units as the new one is rounded up to
rounding_keeps_order : RoundedUpIsLeast → (old new : ℤ) → old ≤ℤ new → rounded_up old ≤ rounded_up new
rounding_keeps_order least old new h =
    let above = (least new (rounded_up new)).0 (omega arith) in
    (least old (rounded_up new)).1 (omega (arith, ints, h, above))

pub has_not_fallen : RoundedUpIsLeast → (old new : ℤ) → old ≤ℤ new → HasNotFallen old new
has_not_fallen least old new h = record { sum = h; bound = bound_keeps_order old new h; rounded = rounding_keeps_order least old new h }

more_below : (duals old new : ℤ) → old ≤ℤ new → (duals +ℤ old) ≤ℤ (duals +ℤ new)
more_below duals old new h = omega (arith, ints, h)

module _ (stay : LowWeightsStay) (table : CostTableSeen) (book : BookSeen) (fewer more : List Fact) (among : AreAmong fewer more) where
  -- the lightest route by the more facts fits the fewer, and so weighs no less than what is low there
  pub low_below_least : (k : ℕ) (duals : List ℤ) (low new : ℤ) → WeighsAtLeast table book fewer k duals low → IsLeastWeight table book more k duals new
      → low ≤ℤ new
  low_below_least k duals low new weighs least =
      let (route, lightest) = least.attained in
      subst (λ (z : ℤ). low ≤ℤ z) lightest.weighs (stay table book fewer more among k duals low weighs route lightest.legal lightest.fits)

  pub lagrangian_below : (duals old new : List ℤ) → AreLowWeights table book fewer duals old → AreLeastWeights table book more duals new
      → lagrangian duals old ≤ℤ lagrangian duals new
  lagrangian_below duals old new low least =
      more_below (total duals) (total old) (total new)
      (total_below old new (low.one_each ∙ sym least.one_each)
      (λ k lt. let hk : k < aircraft book = omega (arith, lt, low.one_each) in
      low_below_least k duals (value_of old k) (value_of new k) (low.each k hk) (least.each k hk)))
