use Rattle.std.specs.Prelude.{All}
use Rattle.route_search.specs.Search.{IsSearchOf}
use Rattle.restricted_master.specs.Pool.{IsPoolFor}
use Rattle.branch_marks.specs.Pool.{IsFittingEntry}
use Rattle.plan_finder.proofs.finder.add_all.Given as goal

-- pool and search are of the book, and what was added fits
abbrev pub invariant-loop-k : goal.invariant-loop-k
invariant-loop-k l = record {
  pool : IsPoolFor l.problem.table.now l.problem.book.now l.pool;
  search : IsSearchOf l.problem.book.now l.search;
  fitting : All (IsFittingEntry l.problem.book.now l.marks.facts) l.initial.pool.entries → All (IsFittingEntry l.problem.book.now l.marks.facts) l.pool.entries;
}
