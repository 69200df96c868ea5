-- What a search by least bound answers: the tree of the run, which was told. For src/best_search.rt.
use Rattle.std.specs.Prelude.{List}
use Rattle.tail_book.specs.Seen.{BookSeen}
use Rattle.tail_book.specs.TableSeen.{CostTableSeen}
use Rattle.tail_book.specs.declared.outcome.Outcome.{Outcome}
use Rattle.branch_marks.specs.LogShown.{LogShown}
use Rattle.branch_marks.specs.TreeLog.{Notes}
use Rattle.node_leaves.specs.NodeEvents.{events_of}
use Rattle.branch_tree.specs.declared.limit.Limit.{Limit}
use Rattle.best_first.specs.BestTree.{Turn, IsBestTree, nodes_of}

-- the search ended with this outcome: its tree is a best-first tree of the outcome, and all events of the tree were told
pub record IsBestSearched (table : CostTableSeen) (book : BookSeen) (limit : Limit) (old new : LogShown) (outcome : Outcome) : Type 0 where
  pub tree : List Turn
  pub is : IsBestTree table book limit outcome tree
  pub told : Notes old new (events_of (nodes_of tree))
