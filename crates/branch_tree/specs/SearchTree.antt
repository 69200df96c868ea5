-- The whole tree of a depth-first search, and what its outcome has to do with it. For best_first/src/growth.rt.
use Rattle.std.specs.Prelude.{◌≡◌, ◌⊎◌, ℕ, ◌≤◌, ⊤, List, [], ◌∷◌, ◌++◌, length, Some, None}
use Rattle.tail_book.specs.Seen.{BookSeen}
use Rattle.tail_book.specs.TableSeen.{CostTableSeen}
use Rattle.tail_book.specs.Truth.{IsPlanIn}
use Rattle.tail_book.specs.declared.outcome.Outcome.{Outcome}
use Rattle.tail_book.specs.declared.outcome.Outcome.TheVariants.{Optimal, Infeasible, Between, Above}
use Rattle.branch_tree.specs.declared.limit.Limit.{Limit}
use Rattle.branch_tree.specs.declared.limit.Limit.TheVariants.{Free, Nodes}
use Rattle.node_leaves.specs.Place.{Open, root}
use Rattle.node_leaves.specs.Node.{Node}
use Rattle.node_leaves.specs.Growth.{Grows}
use Rattle.node_leaves.specs.Target.{no_target, FallsTo}
use Rattle.branch_tree.specs.Counted.{IsCounted}
use Rattle.branch_tree.specs.Closing.{IsClosing, IsLowest}

-- as many nodes were counted as the limit allows
abbrev pub HasReached : Limit → ℕ → Type 0
HasReached Free count = ⊥
HasReached (Nodes most) count = count ≡ most

-- no more were counted than it allows
abbrev pub IsWithin : Limit → ℕ → Type 0
IsWithin Free count = ⊤
IsWithin (Nodes most) count = count ≤ most

-- the outcome is what the final target, the number of counted nodes and the closing nodes say: with a plan of that cost or
-- without, and final where no closing node is left below it
abbrev pub IsOutcomeOf : CostTableSeen → BookSeen → Limit → ℕ → List Node → ℕ → Outcome → Type 0
IsOutcomeOf table book limit count closing final (Optimal plan cost) =
    IsPlanIn table book cost plan × (final ≡ cost) × IsLowest final closing None
IsOutcomeOf table book limit count closing final Infeasible = (final ≡ no_target table) × IsLowest final closing None
IsOutcomeOf table book limit count closing final (Between plan low high nodes) =
    IsPlanIn table book high plan × (final ≡ high) × IsLowest final closing (Some low) × HasReached limit nodes × (count ≡ nodes)
IsOutcomeOf table book limit count closing final (Above low nodes) =
    (final ≡ no_target table) × IsLowest final closing (Some low) × HasReached limit nodes × (count ≡ nodes)

-- the counted nodes in depth-first order, and then a closing node for each place that is still open
pub record SearchTree : Type 0 where
  pub counted : List Node
  pub closing : List Node

abbrev pub nodes_of : SearchTree → List Node
nodes_of tree = tree.counted ++ tree.closing

-- counted nodes lead from the root to the places that are left, and closing nodes from these to none; at most as many are
-- counted as the limit allows, and exactly so many where a place is left; targets fall from one more than any plan costs to
-- the final one; and the outcome is what they say
pub record IsSearchTree (table : CostTableSeen) (book : BookSeen) (limit : Limit) (outcome : Outcome) (tree : SearchTree) : Type 0 where
  pub final : ℕ
  pub left : List Open
  pub grown : Grows (IsCounted table book) (root book ∷ []) tree.counted left
  pub closed : Grows (IsClosing table book final) left tree.closing []
  pub within : IsWithin limit (length tree.counted)
  pub reached : (left ≡ []) ⊎ HasReached limit (length tree.counted)
  pub falls : FallsTo (no_target table) tree.counted final
  pub answered : IsOutcomeOf table book limit (length tree.counted) tree.closing final outcome
