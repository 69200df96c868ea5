-- A tree whose places were taken in any order: which nodes stand in it, and what its outcome has to do with them.
-- For Laws.antt.
use Rattle.std.specs.Prelude.{◌⊎◌, ℕ, ◌≤◌, List, [], ◌∷◌, Contains}
use Rattle.tail_book.specs.Seen.{BookSeen}
use Rattle.tail_book.specs.TableSeen.{CostTableSeen}
use Rattle.tail_book.specs.declared.outcome.Outcome.{Outcome}
use Rattle.branch_tree.specs.declared.limit.Limit.{Limit}
use Rattle.node_leaves.specs.Place.{Open, root}
use Rattle.node_leaves.specs.Node.{Node}
use Rattle.node_leaves.specs.Growth.{Grows}
use Rattle.branch_tree.specs.Counted.{IsCounted}
use Rattle.branch_tree.specs.Closing.{IsClosing}
use Rattle.branch_tree.specs.SearchTree.{IsOutcomeOf}

-- a node of a tree with this final target and these closing nodes: it was counted under a target that is at least the final
-- one, or it is one of the closing nodes
abbrev pub StandsOver : CostTableSeen → BookSeen → ℕ → List Node → Open → Node → Type 0
StandsOver table book final closing here node =
    (IsCounted table book here node × (final ≤ node.target)) ⊎ (IsClosing table book final here node × Contains closing node)

-- the nodes lead from the root to no open place, whichever place was taken first, and the outcome is what the final target, the
-- number of counted nodes and the closing nodes say
pub record IsGrownTree (table : CostTableSeen) (book : BookSeen) (limit : Limit) (outcome : Outcome) (count : ℕ) (closing nodes : List Node) : Type 0 where
  pub final : ℕ
  pub grown : Grows (StandsOver table book final closing) (root book ∷ []) nodes []
  pub answered : IsOutcomeOf table book limit count closing final outcome
