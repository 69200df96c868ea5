use Rattle.std.proofs.Common.{List}
use Rattle.branch_marks.specs.declared.fact.Fact.{Fact}
use Rattle.node_leaves.specs.inside.NewRoutes.{AreFittingRoutes, HasAll, HasGrown}
use Rattle.node_leaves.specs.inside.FittingPool.{IsFittingPool}
use Rattle.node_leaves.proofs.new_routes.add_routes.Given as goal

-- the routes so far are in the pool
abbrev pub invariant-loop-k : goal.invariant-loop-k
invariant-loop-k l = record {
  all : HasAll l.pool l.routes l.k;
  grown : HasGrown l.initial.pool l.pool l.grew;
  fitting : (facts : List Fact) → IsFittingPool l.table l.book facts l.initial.pool → AreFittingRoutes l.book facts l.routes → IsFittingPool l.table l.book facts l.pool;
}
