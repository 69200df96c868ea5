-- What a look at a node under duals comes to: its end, or least routes whose sum leaves room below the target.
use Rattle.std.specs.Prelude.{◌≡◌, ℕ, ℤ, ◌≤◌, ⊤, List}
use Rattle.tail_book.specs.Seen.{BookSeen}
use Rattle.tail_book.specs.TableSeen.{CostTableSeen}
use Rattle.tail_book.specs.CostTable.{plan_cost_in}
use Rattle.tail_book.specs.Plan.{IsLegalPlan}
use Rattle.branch_marks.specs.declared.fact.Fact.{Fact}
use Rattle.branch_marks.specs.Bound.{AreLeastWeights, lagrangian, bound_of, Passes}
use Rattle.branch_marks.specs.Settled.{AreRoutesOfWeights}
use Rattle.branch_tree.specs.declared.node_bound.LeastRoutes.{LeastRoutes}
use Rattle.branch_tree.specs.declared.node_bound.Weighed.{Weighed}
use Rattle.branch_tree.specs.declared.node_bound.Weighed.TheVariants as weighed
use Rattle.branch_tree.specs.inside.StepParts.{IsEndFound, IsLeaf}

-- where the routes are a legal plan, the target is at most its cost
abbrev pub IsUsedPlan : CostTableSeen → BookSeen → ℕ → List (List ℕ) → Type 0
IsUsedPlan table book target routes = IsLegalPlan book routes → target ≤ plan_cost_in table book routes

-- the least weights with routes that have them, and their sum, which leaves room below the target
pub record LeavesRoom (table : CostTableSeen) (book : BookSeen) (marks : List Fact) (duals : List ℤ) (target : ℕ) (found : LeastRoutes) : Type 0 where
  pub least : AreLeastWeights table book marks duals found.values.items
  pub attained : AreRoutesOfWeights table book marks duals found.values.items found.routes.items
  pub sum : found.sum ≡ lagrangian duals found.values.items
  pub below : ¬ Passes (bound_of found.sum) target
  pub used : IsUsedPlan table book target found.routes.items

abbrev pub IsWeighedNode : CostTableSeen → BookSeen → List Fact → List ℤ → ℕ → Weighed → Type 0
IsWeighedNode table book marks duals target (weighed.Ended end) = IsEndFound table book marks duals target end
IsWeighedNode table book marks duals target (weighed.Open found) = LeavesRoom table book marks duals target found

-- where the node ends, it ends in a leaf
abbrev pub EndsInLeaf : Weighed → Type 0
EndsInLeaf (weighed.Ended end) = IsLeaf end
EndsInLeaf (weighed.Open found) = ⊤
