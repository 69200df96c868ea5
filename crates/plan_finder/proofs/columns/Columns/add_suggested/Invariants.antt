use Rattle.route_search.specs.Search.{IsSearchOf}
use Rattle.restricted_master.specs.Pool.{IsPoolFor}
use Rattle.plan_finder.proofs.columns.Columns.add_suggested.Given as goal

-- pool and search are of the book
abbrev pub invariant-loop-i : goal.invariant-loop-i
invariant-loop-i l = record {
  pool : IsPoolFor l.problem.table.now l.problem.book.now l.pool;
  search : IsSearchOf l.problem.book.now l.search;
}
