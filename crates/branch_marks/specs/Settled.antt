-- Settled duals: whichever of them is moved within the box, the Lagrangian sum gains less than a cost unit.
-- For src/laws/settled_duals.rt.
use Rattle.std.specs.Prelude.{◌≡◌, ℕ, ℤ, pos, ◌*◌, ◌<◌, ◌+ℤ◌, ◌<ℤ◌, List, All, length, Some, IsSome, slice_set}
use Rattle.tail_book.specs.Seen.{BookSeen}
use Rattle.tail_book.specs.TableSeen.{CostTableSeen}
use Rattle.tail_book.specs.Lookup.{activities, aircraft}
use Rattle.tail_book.specs.CostTable.{IsInBox, cost_unit, plan_cost_in}
use Rattle.tail_book.specs.Plan.{times_flown, route_of, IsLegalPlan}
use Rattle.tail_book.specs.inside.Sound.{IsBook}
use Rattle.branch_marks.specs.declared.fact.Fact.{Fact}
use Rattle.branch_marks.specs.DeadEnds.{IsStuck}
use Rattle.branch_marks.specs.Weights.{IsRouteOfWeight}
use Rattle.branch_marks.specs.Bound.{value_of, AreLeastWeights, lagrangian, MarkedPlansCostAtLeast}
use Rattle.branch_marks.specs.Pool.{Pooled, IsFittingEntry, least_in, sum_in}

-- a dual for each activity, each of them in the table's box
pub record AreDuals (table : CostTableSeen) (book : BookSeen) (duals : List ℤ) : Type 0 where
  pub one_each : length duals ≡ activities book
  pub box : All (IsInBox table) duals

-- the duals with that of a changed
abbrev pub with_dual : List ℤ → ℕ → ℤ → List ℤ
with_dual duals a value = slice_set duals a value

-- this is the Lagrangian sum of the duals: all of them, and the least weight of each aircraft; so none is stuck
abbrev pub IsSum : CostTableSeen → BookSeen → List Fact → List ℤ → ℤ → Type 0
IsSum table book marks duals sum = (values : List ℤ) × AreLeastWeights table book marks duals values × (sum ≡ lagrangian duals values)

-- where no aircraft is stuck there is such a sum
abbrev pub SumsExist : Type 0
SumsExist = (table : CostTableSeen) (book : BookSeen) → IsBook book → (marks : List Fact) (duals : List ℤ)
    → ((k : ℕ) → k < aircraft book → ¬ IsStuck book marks k) → (sum : ℤ) × IsSum table book marks duals sum

-- the duals are settled: there is a sum, taken over each legal route that fits, and moving one dual within the box gains less than a cost unit
pub record IsSettled (table : CostTableSeen) (book : BookSeen) (marks : List Fact) (duals : List ℤ) : Type 0 where
  pub in_box : AreDuals table book duals
  pub sum : (sum : ℤ) × IsSum table book marks duals sum
  pub settled : (a : ℕ) → a < activities book → (value : ℤ) → IsInBox table value
      → (sum raised : ℤ) → IsSum table book marks duals sum → IsSum table book marks (with_dual duals a value) raised → raised <ℤ (sum +ℤ pos cost_unit)

-- the duals are settled over a pool: it has a route of each aircraft, and the same holds of the sum over it
pub record IsSettledOver (table : CostTableSeen) (book : BookSeen) (pool : List Pooled) (duals : List ℤ) : Type 0 where
  pub in_box : AreDuals table book duals
  pub routes : (k : ℕ) → k < aircraft book → IsSome (least_in table book duals k pool)
  pub settled : (a : ℕ) → a < activities book → (value : ℤ) → IsInBox table value
      → sum_in table book (with_dual duals a value) pool <ℤ (sum_in table book duals pool +ℤ pos cost_unit)

-- where the pool has legal routes that fit alone, and the least weight of each aircraft is the least in the pool, duals that
-- are settled over the pool are settled
abbrev pub SettledOverPoolIsSettled : Type 0
SettledOverPoolIsSettled = (table : CostTableSeen) (book : BookSeen) (marks : List Fact) (pool : List Pooled) (duals values : List ℤ)
    → All (IsFittingEntry book marks) pool → IsSettledOver table book pool duals → AreLeastWeights table book marks duals values
    → ((k : ℕ) → k < aircraft book → least_in table book duals k pool ≡ Some (value_of values k)) → IsSettled table book marks duals

-- a route for each aircraft that is legal, fits, and weighs the aircraft's value
pub record AreRoutesOfWeights (table : CostTableSeen) (book : BookSeen) (marks : List Fact) (duals values : List ℤ) (routes : List (List ℕ)) : Type 0 where
  pub one_each : length routes ≡ aircraft book
  pub value_each : length values ≡ aircraft book
  pub each : (k : ℕ) → k < aircraft book → IsRouteOfWeight table book marks k duals (value_of values k) (route_of routes k)

-- where such routes fly each activity exactly once, they are a legal plan, whose cost in thousandths is the Lagrangian sum
abbrev pub RoutesOfWeightsArePlan : Type 0
RoutesOfWeightsArePlan = (table : CostTableSeen) (book : BookSeen) (marks : List Fact) (duals values : List ℤ) (routes : List (List ℕ))
    → length duals ≡ activities book → AreRoutesOfWeights table book marks duals values routes
    → ((a : ℕ) → a < activities book → times_flown routes a ≡ 1)
    → IsLegalPlan book routes × (pos (cost_unit * plan_cost_in table book routes) ≡ lagrangian duals values)

-- and where the values are the least weights, no legal plan of which the marks hold costs less
abbrev pub RoutesOfLeastWeightsCostLeast : Type 0
RoutesOfLeastWeightsCostLeast = (table : CostTableSeen) (book : BookSeen) → IsBook book → (marks : List Fact) (duals values : List ℤ) (routes : List (List ℕ))
    → length duals ≡ activities book → AreLeastWeights table book marks duals values → AreRoutesOfWeights table book marks duals values routes
    → ((a : ℕ) → a < activities book → times_flown routes a ≡ 1) → MarkedPlansCostAtLeast table book marks (plan_cost_in table book routes)
