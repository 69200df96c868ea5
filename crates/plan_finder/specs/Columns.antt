-- What a dive or a neighbourhood keeps of its own: a pool, and a search of routes for it.
use Rattle.restricted_master.specs.Pool.{IsPoolFor}
use Rattle.route_search.specs.Search.{IsSearchOf}
use Rattle.plan_finder.specs.declared.columns.Columns.{Columns}
use Rattle.plan_finder.specs.declared.problem.Problem.{Problem}

-- pool and search are of the book
pub record AreColumns (problem : Problem) (columns : Columns) : Type 0 where
  pub pool : IsPoolFor problem.table.now problem.book.now columns.pool
  pub search : IsSearchOf problem.book.now columns.search
