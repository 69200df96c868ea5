-- What a search found in its own order, as it is said of either: the nodes of its tree, all of which were told.
use Rattle.std.proofs.Common.{IfOk, Result, Ok, Err, refl}
use Rattle.tail_book.specs.Seen.{BookSeen}
use Rattle.tail_book.specs.TableSeen.{CostTableSeen}
use Rattle.tail_book.specs.declared.outcome.Outcome.{Outcome}
use Rattle.branch_marks.specs.LogShown.{LogShown}
use Rattle.branch_tree.specs.Search.{IsSearched}
use Rattle.branch_tree.specs.SearchTree.{nodes_of}
use Rattle.branch_tree.specs.declared.limit.Limit.{Limit}
use Rattle.best_first.specs.BestSearch.{IsBestSearched}
use Rattle.best_first.specs.BestTree.{nodes_of as nodes_of_turns}
use Rattle.certified_search.specs.OrderedTree.{IsSearchedIn}
use Rattle.certified_search.specs.declared.order.Order.TheVariants.{DepthFirst, LeastBound}

module _ {E : Type 0} (table : CostTableSeen) (book : BookSeen) (limit : Limit) (old new : LogShown) where
  pub depth_first : (found : Result Outcome E) → IfOk found (IsSearched table book limit old new) → IfOk found (IsSearchedIn DepthFirst table book limit old new)
  depth_first (Ok outcome) is = record { nodes = nodes_of is.tree; is = (is.tree, is.is, refl); told = is.told }
  depth_first (Err stop) is = tt

  pub by_least_bound : (found : Result Outcome E) → IfOk found (IsBestSearched table book limit old new) → IfOk found (IsSearchedIn LeastBound table book limit old new)
  by_least_bound (Ok outcome) is = record { nodes = nodes_of_turns is.tree; is = (is.tree, is.is, refl); told = is.told }
  by_least_bound (Err stop) is = tt
