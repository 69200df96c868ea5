-- Weak duality with fees. Each route of the plan weighs with fees at least its aircraft's value; over all routes the weights,
-- the duals and the fees are the cost; and where the plan keeps the quotas, its fees are at most what they come to where each
-- quota is used as often as it may be.
use Rattle.std.specs.Prelude.{All}
use Rattle.std.proofs.Common.{◌≡◌, ◌∙◌, ℕ, suc, ℤ, pos, ◌+◌, ◌*◌, ◌+ℤ◌, ◌-ℤ◌, ◌≤ℤ◌, ◌<◌, ◌≤◌, arith, List, [], ◌∷◌, map, length, sym, get_or}
use Rattle.std.proofs.lemmas.Int.{ints}
use Rattle.tail_book.specs.Seen.{BookSeen}
use Rattle.tail_book.specs.TableSeen.{CostTableSeen}
use Rattle.tail_book.specs.Lookup.{activities, aircraft}
use Rattle.tail_book.specs.CostTable.{route_cost_in, cost_of_routes_in, plan_cost_in}
use Rattle.tail_book.specs.inside.Partition.{TotalOfLegalPlan}
use Rattle.tail_book.specs.Plan.{route_of}
use Rattle.tail_book.specs.inside.Sound.{IsBook}
use Rattle.tail_book.specs.Sums.{total}
use Rattle.tail_book.specs.inside.Sums.{TotalByNumber}
use Rattle.branch_marks.specs.declared.fact.Fact.{Fact}
use Rattle.branch_marks.specs.Facts.{HoldAll}
use Rattle.branch_marks.specs.inside.Fitting.{MarkedRoutesFit}
use Rattle.branch_marks.specs.Weights.{duals_on}
use Rattle.branch_marks.specs.Bound.{rounded_up}
use Rattle.branch_marks.proofs.Duality.{duals_of_plan, rounded_up_back}
use Rattle.quota_rows.specs.Fees.{fees_on, fees_at_most}
use Rattle.quota_rows.specs.FeeBound.{AreLowFeeWeights, fee_lagrangian}
use Rattle.quota_rows.specs.FeeWeights.{fee_weight}
use Rattle.quota_rows.specs.KeptPlans.{IsKeptPlan}
use Rattle.quota_rows.specs.declared.quota.Quota.{Quota}
use Rattle.quota_rows.proofs.FeeSums.{fees_of_plan, kept_plans_pay_at_most}

sum_step : (value values here rest paid fees : ℤ) (c r : ℕ) → value ≤ℤ ((pos (1000 * c) -ℤ here) +ℤ paid) → (values +ℤ rest) ≤ℤ (pos (1000 * r) +ℤ fees)
    → ((value +ℤ values) +ℤ (here +ℤ rest)) ≤ℤ (pos (1000 * (c + r)) +ℤ (paid +ℤ fees))
sum_step value values here rest paid fees c r h i = omega (arith, ints, h, i)

-- the routes of aircraft k, k + 1 and so on: their values and duals are at most their cost and their fees
pub routes_bound : (table : CostTableSeen) (book : BookSeen) (quotas : List Quota) (duals fees : List ℤ) (k : ℕ) (plan : List (List ℕ)) (values : List ℤ)
    → length values ≡ length plan
    → ((i j : ℕ) → j ≡ k + i → i < length plan → get_or values i (pos 0) ≤ℤ fee_weight table book quotas j duals fees (route_of plan i))
    → (total values +ℤ total (map (λ route. duals_on duals route) plan)) ≤ℤ (pos (1000 * cost_of_routes_in table book k plan) +ℤ fees_of_plan book quotas fees plan)
routes_bound table book quotas duals fees k [] [] same each = omega (arith, ints)
routes_bound table book quotas duals fees k [] (value ∷ values) same each = absurd (omega (arith, same))
routes_bound table book quotas duals fees k (route ∷ plan) [] same each = absurd (omega (arith, same))
routes_bound table book quotas duals fees k (route ∷ plan) (value ∷ values) same each =
    sum_step value (total values) (duals_on duals route) (total (map (λ r. duals_on duals r) plan))
    (fees_on book quotas fees route) (fees_of_plan book quotas fees plan)
    (route_cost_in table book k route) (cost_of_routes_in table book (k + 1) plan) (each 0 k (omega arith) (omega arith))
    (routes_bound table book quotas duals fees (k + 1) plan values (omega (arith, same)) (λ i j e lt. each (suc i) j (omega (arith, e)) (omega (arith, lt))))

bounded : (duals values on paid most : ℤ) (cost : ℕ) → (values +ℤ on) ≤ℤ (pos (1000 * cost) +ℤ paid) → duals ≡ on → paid ≤ℤ most
    → ((duals +ℤ values) -ℤ most) ≤ℤ pos (1000 * cost)
bounded duals values on paid most cost p e q = omega (arith, ints, p, e, q)

module _ (fit : MarkedRoutesFit) (by_number : TotalByNumber) (of_plan : TotalOfLegalPlan) (table : CostTableSeen) (book : BookSeen) (sound : IsBook book)
    (quotas : List Quota) (marks : List Fact) (duals fees values : List ℤ) (same : length duals ≡ activities book) (least : All (λ fee. pos 0 ≤ℤ fee) fees)
    (low : AreLowFeeWeights table book quotas marks duals fees values) where
  pub kept_plan_bound : (plan : List (List ℕ)) → IsKeptPlan book quotas plan → HoldAll marks plan
      → rounded_up (fee_lagrangian quotas duals fees values) ≤ plan_cost_in table book plan
  kept_plan_bound plan kept hold =
      let sums = routes_bound table book quotas duals fees 0 plan values (low.one_each ∙ sym kept.legal.one_each)
      (λ i j e lt. let hi : i < aircraft book = omega (arith, kept.legal.one_each) in
      let ij : j ≡ i = omega (arith, e) in
      rw ij (low.each i hi (route_of plan i) (kept.legal.routes i hi) (fit book sound marks plan kept.legal hold i hi))) in
      rounded_up_back (fee_lagrangian quotas duals fees values) (plan_cost_in table book plan)
      (bounded (total duals) (total values) (total (map (λ route. duals_on duals route) plan)) (fees_of_plan book quotas fees plan) (fees_at_most quotas fees)
      (plan_cost_in table book plan) sums (duals_of_plan by_number of_plan book plan kept.legal duals same)
      (kept_plans_pay_at_most book quotas fees plan least kept.keeps))
