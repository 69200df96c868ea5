-- The tree of a search in either order: its nodes, in the order in which they are told. For src/ordered.rt and src/certified.rt.
use Rattle.std.specs.Prelude.{◌≡◌, List}
use Rattle.tail_book.specs.Seen.{BookSeen}
use Rattle.tail_book.specs.TableSeen.{CostTableSeen}
use Rattle.tail_book.specs.declared.outcome.Outcome.{Outcome}
use Rattle.branch_marks.specs.LogShown.{LogShown}
use Rattle.branch_marks.specs.TreeLog.{Notes}
use Rattle.node_leaves.specs.Node.{Node}
use Rattle.node_leaves.specs.NodeEvents.{events_of}
use Rattle.branch_tree.specs.SearchTree.{SearchTree, IsSearchTree, nodes_of}
use Rattle.branch_tree.specs.declared.limit.Limit.{Limit}
use Rattle.best_first.specs.BestTree.{Turn, IsBestTree, nodes_of as nodes_of_turns}
use Rattle.certified_search.specs.declared.order.Order.{Order}
use Rattle.certified_search.specs.declared.order.Order.TheVariants.{DepthFirst, LeastBound}

-- these are the nodes of a tree that has this outcome within the limit: depth first a search tree, by least bound a best-first tree
abbrev pub IsTreeIn : Order → CostTableSeen → BookSeen → Limit → Outcome → List Node → Type 0
IsTreeIn DepthFirst table book limit outcome nodes = (tree : SearchTree) × IsSearchTree table book limit outcome tree × (nodes ≡ nodes_of tree)
IsTreeIn LeastBound table book limit outcome nodes = (tree : List Turn) × IsBestTree table book limit outcome tree × (nodes ≡ nodes_of_turns tree)

-- there is such a tree
abbrev pub HasTreeIn : Order → CostTableSeen → BookSeen → Limit → Outcome → Type 0
HasTreeIn order table book limit outcome = (nodes : List Node) × IsTreeIn order table book limit outcome nodes

-- the search ended with this outcome: it has such a tree, and all events of its nodes were told
pub record IsSearchedIn (order : Order) (table : CostTableSeen) (book : BookSeen) (limit : Limit) (old new : LogShown) (outcome : Outcome) : Type 0 where
  pub nodes : List Node
  pub is : IsTreeIn order table book limit outcome nodes
  pub told : Notes old new (events_of nodes)
