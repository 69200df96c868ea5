-- What a search answers: the tree of the run, which was told, what comes only at a limit, and what it owes to its start.
-- For src/tree_search.rt.
use Rattle.std.specs.Prelude.{ℕ, ◌≤◌, ⊤}
use Rattle.tail_book.specs.Seen.{BookSeen}
use Rattle.tail_book.specs.TableSeen.{CostTableSeen}
use Rattle.tail_book.specs.declared.outcome.Outcome.{Outcome}
use Rattle.tail_book.specs.declared.outcome.Outcome.TheVariants.{Optimal, Infeasible, Between, Above}
use Rattle.branch_marks.specs.LogShown.{LogShown}
use Rattle.branch_marks.specs.TreeLog.{Notes}
use Rattle.branch_tree.specs.declared.limit.Limit.{Limit}
use Rattle.node_leaves.specs.NodeEvents.{events_of}
use Rattle.branch_tree.specs.SearchTree.{SearchTree, nodes_of, HasReached, IsSearchTree}

-- the search ended with this outcome: its tree is a search tree of the outcome, and all events of the tree were told
pub record IsSearched (table : CostTableSeen) (book : BookSeen) (limit : Limit) (old new : LogShown) (outcome : Outcome) : Type 0 where
  pub tree : SearchTree
  pub is : IsSearchTree table book limit outcome tree
  pub told : Notes old new (events_of (nodes_of tree))

-- what is not final comes only at a limit of nodes, and names that many
abbrev pub EndsUnder : Limit → Outcome → Type 0
EndsUnder limit (Optimal plan cost) = ⊤
EndsUnder limit Infeasible = ⊤
EndsUnder limit (Between plan low high nodes) = HasReached limit nodes
EndsUnder limit (Above low nodes) = HasReached limit nodes

-- the outcome has a plan, which costs at most this
abbrev pub HasPlanWithin : ℕ → Outcome → Type 0
HasPlanWithin most (Optimal plan cost) = cost ≤ most
HasPlanWithin most Infeasible = ⊥
HasPlanWithin most (Between plan low high nodes) = high ≤ most
HasPlanWithin most (Above low nodes) = ⊥
