-- The Lagrangian bound: what duals and weights say of the cost of every plan, and when that reaches a cost to undercut.
use Rattle.std.specs.Prelude.{◌≡◌, ℕ, ℤ, pos, negsuc, ◌+◌, ◌*◌, ◌/◌, ◌<◌, ◌≤◌, ◌+ℤ◌, ◌≤ℤ◌, ◌↔◌, List, length, slice_index_or}
use Rattle.tail_book.specs.Seen.{BookSeen}
use Rattle.tail_book.specs.TableSeen.{CostTableSeen}
use Rattle.tail_book.specs.Lookup.{activities, aircraft}
use Rattle.tail_book.specs.CostTable.{cost_unit, plan_cost_in}
use Rattle.tail_book.specs.Plan.{IsLegalPlan}
use Rattle.tail_book.specs.inside.Sound.{IsBook}
use Rattle.tail_book.specs.Sums.{total}
use Rattle.branch_marks.specs.declared.fact.Fact.{Fact}
use Rattle.branch_marks.specs.Facts.{HoldAll}
use Rattle.branch_marks.specs.Weights.{WeighsAtLeast, IsLeastWeight}

-- the value of an aircraft, 0 past the end
abbrev pub value_of : List ℤ → ℕ → ℤ
value_of values k = slice_index_or values k (pos 0)

-- for each aircraft a value that no legal route of it that fits undercuts
pub record AreLowWeights (table : CostTableSeen) (book : BookSeen) (marks : List Fact) (duals values : List ℤ) : Type 0 where
  pub one_each : length values ≡ aircraft book
  pub each : (k : ℕ) → k < aircraft book → WeighsAtLeast table book marks k duals (value_of values k)

-- for each aircraft its least weight; so none of them is stuck
pub record AreLeastWeights (table : CostTableSeen) (book : BookSeen) (marks : List Fact) (duals values : List ℤ) : Type 0 where
  pub one_each : length values ≡ aircraft book
  pub each : (k : ℕ) → k < aircraft book → IsLeastWeight table book marks k duals (value_of values k)

-- the Lagrangian sum of duals and of a value for each aircraft, in thousandths of a cost unit
abbrev pub lagrangian : List ℤ → List ℤ → ℤ
lagrangian duals values = total duals +ℤ total values

-- the sum as a bound on costs, none of which is negative: the larger of it and 0
abbrev pub bound_of : ℤ → ℕ
bound_of (pos n) = n
bound_of (negsuc n) = 0

-- thousandths as cost units, rounded up, and 0 where they are negative
abbrev pub rounded_up : ℤ → ℕ
rounded_up z = (bound_of z + 999) / 1000

-- the bound, in thousandths, passes what a plan of one cost unit less than the target comes to: costs are whole, so no
-- plan is cheaper than the target
abbrev pub Passes : ℕ → ℕ → Type 0
Passes bound target = cost_unit * target < bound + cost_unit

-- rounded up is the least number of cost units that are as many thousandths
abbrev pub RoundedUpIsLeast : Type 0
RoundedUpIsLeast = (z : ℤ) (c : ℕ) → (rounded_up z ≤ c) ↔ (z ≤ℤ pos (cost_unit * c))

-- every legal plan of which the marks hold costs at least this by the table
abbrev pub MarkedPlansCostAtLeast : CostTableSeen → BookSeen → List Fact → ℕ → Type 0
MarkedPlansCostAtLeast table book marks low =
    (plan : List (List ℕ)) → IsLegalPlan book plan → HoldAll marks plan → low ≤ plan_cost_in table book plan

-- weak duality: duals and low weights bound the cost of every such plan
abbrev pub LowWeightsBound : Type 0
LowWeightsBound = (table : CostTableSeen) (book : BookSeen) → IsBook book → (marks : List Fact) (duals values : List ℤ) → length duals ≡ activities book
    → AreLowWeights table book marks duals values → MarkedPlansCostAtLeast table book marks (rounded_up (lagrangian duals values))

-- and so do duals and least weights
abbrev pub LeastWeightsBound : Type 0
LeastWeightsBound = (table : CostTableSeen) (book : BookSeen) → IsBook book → (marks : List Fact) (duals values : List ℤ) → length duals ≡ activities book
    → AreLeastWeights table book marks duals values → MarkedPlansCostAtLeast table book marks (rounded_up (lagrangian duals values))
