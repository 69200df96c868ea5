use Rattle.route_search.specs.Search.{IsSearchOf}
use Rattle.node_leaves.specs.inside.FittingPool.{IsFittingPool}
use Rattle.node_leaves.proofs.suggestions.add_all_suggestions.Given as goal

-- what was added fits
abbrev pub invariant-loop-k : goal.invariant-loop-k
invariant-loop-k l = record {
  pool : IsFittingPool l.table l.book l.marks.facts l.pool;
  search : IsSearchOf l.book l.search;
}
