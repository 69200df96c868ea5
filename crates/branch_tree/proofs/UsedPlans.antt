-- Routes that have the least weights: they are least routes, and where they are a plan that was used, their bound reaches the target.
use Rattle.std.proofs.Common.{◌≡◌, ℕ, ℤ, ◌≤◌, arith, List, length, sym, subst}
use Rattle.tail_book.specs.Seen.{BookSeen}
use Rattle.tail_book.specs.TableSeen.{CostTableSeen}
use Rattle.tail_book.specs.Lookup.{activities}
use Rattle.tail_book.specs.CostTable.{plan_cost_in}
use Rattle.branch_marks.specs.declared.fact.Fact.{Fact}
use Rattle.branch_marks.specs.Bound.{AreLeastWeights, lagrangian, bound_of, Passes}
use Rattle.branch_marks.specs.Settled.{AreRoutesOfWeights, RoutesOfWeightsArePlan}
use Rattle.branch_marks.specs.Weights.{WeighsAtLeast}
use Rattle.dive_heuristic.specs.LeastRoutes.{AreLeastRoutes, IsEachInOne}
use Rattle.branch_tree.specs.inside.NodeBound.{IsUsedPlan}

-- routes that have the least weights are least routes
pub least_routes : (table : CostTableSeen) (book : BookSeen) (marks : List Fact) (duals values : List ℤ) (routes : List (List ℕ))
    → AreLeastWeights table book marks duals values → AreRoutesOfWeights table book marks duals values routes → AreLeastRoutes table book marks duals routes
least_routes table book marks duals values routes least are = record {
  one_each = are.one_each;
  each = λ k lt.
      let each = are.each k lt in
      record {
        legal = each.legal;
        fits = each.fits;
        least = subst (λ (low : ℤ). WeighsAtLeast table book marks k duals low) (sym each.weighs) (least.each k lt).least;
      };
}

-- where the routes are a plan that the target is at most the cost of, their bound reaches it
pub plan_passes : RoutesOfWeightsArePlan → (table : CostTableSeen) (book : BookSeen) (marks : List Fact) (duals values : List ℤ) (routes : List (List ℕ))
    (target : ℕ) → length duals ≡ activities book → AreRoutesOfWeights table book marks duals values routes → IsEachInOne book routes
    → IsUsedPlan table book target routes → Passes (bound_of (lagrangian duals values)) target
plan_passes law table book marks duals values routes target count are each used =
    let plan = law table book marks duals values routes count are each in
    let below : target ≤ plan_cost_in table book routes = used plan.0 in
    subst (λ (z : ℤ). Passes (bound_of z) target) plan.1 (omega (arith, below))
