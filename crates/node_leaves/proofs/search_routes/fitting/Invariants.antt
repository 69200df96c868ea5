use Rattle.node_leaves.specs.inside.FittingPool.{IsLegalPool}
use Rattle.node_leaves.proofs.search_routes.fitting.Given as goal

abbrev pub invariant-loop-i : goal.invariant-loop-i
invariant-loop-i l = IsLegalPool l.table l.book l.fit
