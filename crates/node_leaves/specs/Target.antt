-- The cost to undercut, and what has used it. For src/best.rt and others.
use Rattle.std.specs.Prelude.{◌≡◌, ◌⊎◌, ℕ, ℤ, ◌+◌, ◌≤◌, ⊤, List, [], ◌∷◌, map, Option, Some, None}
use Rattle.tail_book.specs.Seen.{BookSeen}
use Rattle.tail_book.specs.TableSeen.{CostTableSeen}
use Rattle.tail_book.specs.CostTable.{greatest_cost_in, plan_cost_in}
use Rattle.tail_book.specs.Truth.{SomePlanCostsBy, IsPlanIn}
use Rattle.branch_marks.specs.Bound.{lagrangian, bound_of}
use Rattle.branch_marks.specs.ProofTree.{Cover}
use Rattle.dive_heuristic.specs.declared.answer.Dive.{Dive}
use Rattle.dive_heuristic.specs.declared.answer.Dive.TheVariants.{Plan, Dead}
use Rattle.node_leaves.specs.Node.{Ending, Hole, Stuck, Bounded, Split, Node}

-- one more than any legal plan costs: what there is to undercut before a plan is known
abbrev pub no_target : CostTableSeen → ℕ
no_target table = greatest_cost_in table + 1

-- the cost of a legal plan, or that
abbrev pub IsTarget : CostTableSeen → BookSeen → ℕ → Type 0
IsTarget table book target = (target ≡ no_target table) ⊎ SomePlanCostsBy (plan_cost_in table book) book target

-- the best plan so far and what is to be undercut: its cost
abbrev pub IsBest : CostTableSeen → BookSeen → Option (List (List ℕ)) → ℕ → Type 0
IsBest table book None target = target ≡ no_target table
IsBest table book (Some plan) target = IsPlanIn table book target plan

-- the bound of duals and covers, in thousandths
abbrev pub bound_under : List ℤ → List Cover → ℕ
bound_under duals covers = bound_of (lagrangian duals (map (λ cover. cover.value) covers))

-- no plan with which the dive ended is cheaper than the target
abbrev pub HasUsed : ℕ → Dive → Type 0
HasUsed target (Plan plan cost) = target ≤ cost
HasUsed target (Dead steps end) = ⊤

-- so of the dive of a split
abbrev pub HasUsedDive : ℕ → Ending → Type 0
HasUsedDive target (Split pair duals routes dive) = HasUsed target dive
HasUsedDive target (Hole a) = ⊤
HasUsedDive target (Stuck k family) = ⊤
HasUsedDive target (Bounded duals covers) = ⊤

-- along the nodes targets never rise, from the first to the final one
unfoldable pub FallsTo : ℕ → List Node → ℕ → Type 0
FallsTo first [] final = final ≤ first
FallsTo first (node ∷ nodes) final = (node.target ≤ first) × FallsTo node.target nodes final
