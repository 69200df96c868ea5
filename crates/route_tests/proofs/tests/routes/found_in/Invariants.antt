use Rattle.route_search.specs.Search.{IsSearchOf}
use Rattle.route_tests.proofs.tests.routes.found_in.Given as goal

abbrev pub invariant-loop-cut : goal.invariant-loop-cut
invariant-loop-cut l = IsSearchOf l.problem.book.now l.search
