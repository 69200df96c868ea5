-- The Lagrangian bound with fees: what duals, fees and weights say of the cost of every plan that keeps the quotas.
-- For src/laws.rt.
use Rattle.std.specs.Prelude.{◌≡◌, ℕ, ◌<◌, ℤ, pos, ◌-ℤ◌, ◌≤ℤ◌, ◌≤◌, List, All, length}
use Rattle.tail_book.specs.Seen.{BookSeen}
use Rattle.tail_book.specs.TableSeen.{CostTableSeen}
use Rattle.tail_book.specs.Lookup.{activities, aircraft}
use Rattle.tail_book.specs.CostTable.{plan_cost_in}
use Rattle.tail_book.specs.inside.Sound.{IsBook}
use Rattle.branch_marks.specs.declared.fact.Fact.{Fact}
use Rattle.branch_marks.specs.Facts.{HoldAll}
use Rattle.branch_marks.specs.Bound.{value_of, lagrangian, rounded_up}
use Rattle.quota_rows.specs.Fees.{fees_at_most}
use Rattle.quota_rows.specs.FeeWeights.{WeighsAtLeastWithFees, IsLeastFeeWeight}
use Rattle.quota_rows.specs.KeptPlans.{IsKeptPlan}
use Rattle.quota_rows.specs.declared.quota.Quota.{Quota}

-- for each aircraft a value that no legal route of it that fits undercuts, with fees
pub record AreLowFeeWeights (table : CostTableSeen) (book : BookSeen) (quotas : List Quota) (marks : List Fact) (duals fees values : List ℤ) : Type 0 where
  pub one_each : length values ≡ aircraft book
  pub each : (k : ℕ) → k < aircraft book → WeighsAtLeastWithFees table book quotas marks k duals fees (value_of values k)

-- for each aircraft its least weight with fees; so none of them is stuck
pub record AreLeastFeeWeights (table : CostTableSeen) (book : BookSeen) (quotas : List Quota) (marks : List Fact) (duals fees values : List ℤ) : Type 0 where
  pub one_each : length values ≡ aircraft book
  pub each : (k : ℕ) → k < aircraft book → IsLeastFeeWeight table book quotas marks k duals fees (value_of values k)

-- the Lagrangian sum with fees, in thousandths of a cost unit: that of duals and values, less what the fees come to at most
abbrev pub fee_lagrangian : List Quota → List ℤ → List ℤ → List ℤ → ℤ
fee_lagrangian quotas duals fees values = lagrangian duals values -ℤ fees_at_most quotas fees

-- where all fees are 0, it is the sum without fees
abbrev pub LagrangianWithoutFees : Type 0
LagrangianWithoutFees = (quotas : List Quota) (duals fees values : List ℤ)
    → All (λ fee. fee ≡ pos 0) fees → fee_lagrangian quotas duals fees values ≡ lagrangian duals values

-- every legal plan that keeps the quotas, and of which the marks hold, costs at least this by the table
abbrev pub MarkedKeptPlansCostAtLeast : CostTableSeen → BookSeen → List Quota → List Fact → ℕ → Type 0
MarkedKeptPlansCostAtLeast table book quotas marks low =
    (plan : List (List ℕ)) → IsKeptPlan book quotas plan → HoldAll marks plan → low ≤ plan_cost_in table book plan

-- weak duality with fees: duals, fees and low weights bound the cost of every such plan
abbrev pub LowFeeWeightsBound : Type 0
LowFeeWeightsBound = (table : CostTableSeen) (book : BookSeen) → IsBook book → (quotas : List Quota) (marks : List Fact) (duals fees values : List ℤ)
    → length duals ≡ activities book → All (λ fee. pos 0 ≤ℤ fee) fees → AreLowFeeWeights table book quotas marks duals fees values
    → MarkedKeptPlansCostAtLeast table book quotas marks (rounded_up (fee_lagrangian quotas duals fees values))

-- and so do duals, fees and least weights
abbrev pub LeastFeeWeightsBound : Type 0
LeastFeeWeightsBound = (table : CostTableSeen) (book : BookSeen) → IsBook book → (quotas : List Quota) (marks : List Fact) (duals fees values : List ℤ)
    → length duals ≡ activities book → All (λ fee. pos 0 ≤ℤ fee) fees → AreLeastFeeWeights table book quotas marks duals fees values
    → MarkedKeptPlansCostAtLeast table book quotas marks (rounded_up (fee_lagrangian quotas duals fees values))
