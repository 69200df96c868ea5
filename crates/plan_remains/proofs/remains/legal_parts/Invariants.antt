use Rattle.route_search.specs.Search.{IsSearchOf}
use Rattle.plan_remains.proofs.remains.legal_parts.Given as goal

-- the search stays one of the book
abbrev pub invariant-loop-k : goal.invariant-loop-k
invariant-loop-k l = IsSearchOf l.problem.book.now l.search
