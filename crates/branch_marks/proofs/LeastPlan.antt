-- Routes that weigh their aircraft's values and fly each activity once: weights and duals together are their cost, and their
-- duals are all duals, so the cost of the plan is the Lagrangian sum.
use Rattle.std.proofs.Common.{◌≡◌, ◌∙◌, ◌<◌, ℕ, suc, ℤ, pos, ◌+◌, ◌*◌, ◌+ℤ◌, ◌-ℤ◌, ◌≤ℤ◌, arith, List, [], ◌∷◌, map, length, get_or, sym}
use Rattle.std.proofs.lemmas.Int.{ints}
use Rattle.tail_book.specs.Seen.{BookSeen}
use Rattle.tail_book.specs.TableSeen.{CostTableSeen}
use Rattle.tail_book.specs.Lookup.{activities, aircraft}
use Rattle.tail_book.specs.CostTable.{route_cost_in, cost_of_routes_in, plan_cost_in}
use Rattle.tail_book.specs.inside.Partition.{TotalOfLegalPlan}
use Rattle.tail_book.specs.Plan.{times_flown, route_of, IsLegalPlan}
use Rattle.tail_book.specs.inside.Sound.{IsBook}
use Rattle.tail_book.specs.Sums.{total}
use Rattle.tail_book.specs.inside.Sums.{TotalByNumber}
use Rattle.branch_marks.specs.declared.fact.Fact.{Fact}
use Rattle.branch_marks.specs.Weights.{duals_on, weight}
use Rattle.branch_marks.specs.Bound.{AreLeastWeights, lagrangian, RoundedUpIsLeast, MarkedPlansCostAtLeast, LeastWeightsBound}
use Rattle.branch_marks.specs.Settled.{AreRoutesOfWeights}
use Rattle.branch_marks.proofs.Duality.{duals_of_plan}

sum_step : (value values here rest : ℤ) (c r : ℕ) → (pos (1000 * c) -ℤ here) ≡ value → pos (1000 * r) ≡ values +ℤ rest
    → pos (1000 * (c + r)) ≡ (value +ℤ values) +ℤ (here +ℤ rest)
sum_step value values here rest c r h i = omega (arith, ints, h, i)

routes_cost : (table : CostTableSeen) (book : BookSeen) (duals : List ℤ) (k : ℕ) (plan : List (List ℕ)) (values : List ℤ) → length values ≡ length plan
    → ((i j : ℕ) → j ≡ k + i → i < length plan → weight table book j duals (route_of plan i) ≡ get_or values i (pos 0))
    → pos (1000 * cost_of_routes_in table book k plan) ≡ total values +ℤ total (map (λ route. duals_on duals route) plan)
routes_cost table book duals k [] [] same each = omega (arith, ints)
routes_cost table book duals k [] (value ∷ values) same each = absurd (omega (arith, same))
routes_cost table book duals k (route ∷ plan) [] same each = absurd (omega (arith, same))
routes_cost table book duals k (route ∷ plan) (value ∷ values) same each =
    sum_step value (total values) (duals_on duals route) (total (map (λ r. duals_on duals r) plan))
    (route_cost_in table book k route) (cost_of_routes_in table book (k + 1) plan) (each 0 k (omega arith) (omega arith))
    (routes_cost table book duals (k + 1) plan values (omega (arith, same)) (λ i j e lt. each (suc i) j (omega (arith, e)) (omega (arith, lt))))

swapped : (cost values duals routes : ℤ) → cost ≡ values +ℤ routes → duals ≡ routes → cost ≡ duals +ℤ values
swapped cost values duals routes e f = omega (arith, ints, e, f)

module _ (by_number : TotalByNumber) (of_plan : TotalOfLegalPlan) (table : CostTableSeen) (book : BookSeen) (marks : List Fact) (duals values : List ℤ)
    (routes : List (List ℕ)) (same : length duals ≡ activities book) (of_weights : AreRoutesOfWeights table book marks duals values routes)
    (once : (a : ℕ) → a < activities book → times_flown routes a ≡ 1) where
  pub plan_of_routes : IsLegalPlan book routes
  plan_of_routes = record { one_each = of_weights.one_each; routes = λ k hk. (of_weights.each k hk).legal; partition = once }

  pub cost_of_plan : pos (1000 * plan_cost_in table book routes) ≡ lagrangian duals values
  cost_of_plan =
      swapped (pos (1000 * plan_cost_in table book routes)) (total values) (total duals) (total (map (λ route. duals_on duals route) routes))
      (routes_cost table book duals 0 routes values (of_weights.value_each ∙ sym of_weights.one_each)
      (λ i j e lt. let hi : i < aircraft book = omega (arith, lt, of_weights.one_each) in
      let ij : j ≡ i = omega (arith, e) in
      rw ij (of_weights.each i hi).weighs))
      (duals_of_plan by_number of_plan book routes plan_of_routes duals same)

  pub no_plan_costs_less : RoundedUpIsLeast → LeastWeightsBound → IsBook book → AreLeastWeights table book marks duals values
      → MarkedPlansCostAtLeast table book marks (plan_cost_in table book routes)
  no_plan_costs_less rounding bound sound least plan legal hold =
      let above = (rounding (lagrangian duals values) (plan_cost_in table book plan)).0 (bound table book sound marks duals values same least plan legal hold) in
      let here = cost_of_plan in
      let there : pos (1000 * plan_cost_in table book routes) ≤ℤ pos (1000 * plan_cost_in table book plan) = rw here above in
      omega (arith, ints, there)
