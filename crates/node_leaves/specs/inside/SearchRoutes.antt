-- The routes of a search: all that are kept, and those for a node. For src/search_routes.rt.
use Rattle.tail_book.specs.Seen.{BookSeen}
use Rattle.tail_book.specs.TableSeen.{CostTableSeen}
use Rattle.node_leaves.specs.inside.FittingPool.{IsLegalPool}
use Rattle.node_leaves.specs.declared.search_routes.SearchRoutes.{SearchRoutes}

-- all routes that are kept are legal, and so are those for a node
pub record AreSearchRoutes (table : CostTableSeen) (book : BookSeen) (routes : SearchRoutes) : Type 0 where
  pub all : IsLegalPool table book routes.all
  pub fit : IsLegalPool table book routes.fit
