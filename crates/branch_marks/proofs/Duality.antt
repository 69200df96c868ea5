-- Weak duality. Each route of the plan weighs at least its aircraft's value; over all routes the weights and the duals are
-- the cost; and in a legal plan, which flies each activity once, the duals of the routes are all duals.
use Rattle.std.proofs.Common.{◌≡◌, ◌∙◌, ℕ, suc, ℤ, pos, negsuc, ◌+◌, ◌*◌, ◌+ℤ◌, ◌-ℤ◌, ◌≤ℤ◌, ◌<◌, ◌≤◌, arith, List, [], ◌∷◌, map, length, sym, get_or}
use Rattle.std.proofs.lemmas.Int.{ints}
use Rattle.tail_book.specs.Seen.{BookSeen}
use Rattle.tail_book.specs.TableSeen.{CostTableSeen}
use Rattle.tail_book.specs.Lookup.{activities, aircraft}
use Rattle.tail_book.specs.CostTable.{route_cost_in, cost_of_routes_in, plan_cost_in}
use Rattle.tail_book.specs.inside.Partition.{TotalOfLegalPlan}
use Rattle.tail_book.specs.Plan.{route_of, IsLegalPlan}
use Rattle.tail_book.specs.inside.Sound.{IsBook}
use Rattle.tail_book.specs.Sums.{total, sum_below}
use Rattle.tail_book.specs.inside.Sums.{TotalByNumber}
use Rattle.branch_marks.specs.declared.fact.Fact.{Fact}
use Rattle.branch_marks.specs.Facts.{HoldAll}
use Rattle.branch_marks.specs.inside.Fitting.{MarkedRoutesFit}
use Rattle.branch_marks.specs.Weights.{dual, duals_on, weight}
use Rattle.branch_marks.specs.Bound.{AreLowWeights, lagrangian, rounded_up}

pub rounded_up_forth : (z : ℤ) (c : ℕ) → rounded_up z ≤ c → z ≤ℤ pos (1000 * c)
rounded_up_forth (pos n) c h = let le : n ≤ 1000 * c = omega arith in omega (arith, ints, le)
rounded_up_forth (negsuc n) c h = omega (arith, ints)

pub rounded_up_back : (z : ℤ) (c : ℕ) → z ≤ℤ pos (1000 * c) → rounded_up z ≤ c
rounded_up_back (pos n) c h = let le : n ≤ 1000 * c = omega (arith, ints, h) in omega arith
rounded_up_back (negsuc n) c h = omega arith

sum_step : (value values here rest : ℤ) (c r : ℕ) → value ≤ℤ (pos (1000 * c) -ℤ here) → (values +ℤ rest) ≤ℤ pos (1000 * r)
    → ((value +ℤ values) +ℤ (here +ℤ rest)) ≤ℤ pos (1000 * (c + r))
sum_step value values here rest c r h i = omega (arith, ints, h, i)

-- the routes of aircraft k, k + 1 and so on: their values and duals are at most their cost
pub routes_bound : (table : CostTableSeen) (book : BookSeen) (duals : List ℤ) (k : ℕ) (plan : List (List ℕ)) (values : List ℤ) → length values ≡ length plan
    → ((i j : ℕ) → j ≡ k + i → i < length plan → get_or values i (pos 0) ≤ℤ weight table book j duals (route_of plan i))
    → (total values +ℤ total (map (λ route. duals_on duals route) plan)) ≤ℤ pos (1000 * cost_of_routes_in table book k plan)
routes_bound table book duals k [] [] same each = omega (arith, ints)
routes_bound table book duals k [] (value ∷ values) same each = absurd (omega (arith, same))
routes_bound table book duals k (route ∷ plan) [] same each = absurd (omega (arith, same))
routes_bound table book duals k (route ∷ plan) (value ∷ values) same each =
    sum_step value (total values) (duals_on duals route) (total (map (λ r. duals_on duals r) plan))
    (route_cost_in table book k route) (cost_of_routes_in table book (k + 1) plan) (each 0 k (omega arith) (omega arith))
    (routes_bound table book duals (k + 1) plan values (omega (arith, same)) (λ i j e lt. each (suc i) j (omega (arith, e)) (omega (arith, lt))))

-- in a legal plan all duals are those of its routes
pub duals_of_plan : TotalByNumber → TotalOfLegalPlan → (book : BookSeen) (plan : List (List ℕ)) → IsLegalPlan book plan → (duals : List ℤ) → length duals ≡ activities book
    → total duals ≡ total (map (λ route. duals_on duals route) plan)
duals_of_plan by_number of_plan book plan legal duals same =
    let here : total duals ≡ sum_below (activities book) (dual duals) = rw (← same) (by_number duals) in
    here ∙ sym (of_plan book (dual duals) plan legal)

module _ (fit : MarkedRoutesFit) (by_number : TotalByNumber) (of_plan : TotalOfLegalPlan) (table : CostTableSeen) (book : BookSeen) (sound : IsBook book)
    (marks : List Fact) (duals values : List ℤ) (same : length duals ≡ activities book) (low : AreLowWeights table book marks duals values) where
  pub plan_bound : (plan : List (List ℕ)) → IsLegalPlan book plan → HoldAll marks plan → rounded_up (lagrangian duals values) ≤ plan_cost_in table book plan
  plan_bound plan legal hold =
      let sums = routes_bound table book duals 0 plan values (low.one_each ∙ sym legal.one_each)
      (λ i j e lt. let hi : i < aircraft book = omega (arith, legal.one_each) in
      let ij : j ≡ i = omega (arith, e) in
      rw ij (low.each i hi (route_of plan i) (legal.routes i hi) (fit book sound marks plan legal hold i hi))) in
      let parts = duals_of_plan by_number of_plan book plan legal duals same in
      rounded_up_back (lagrangian duals values) (plan_cost_in table book plan) (omega (arith, ints, sums, parts))
