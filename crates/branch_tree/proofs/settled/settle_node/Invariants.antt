use Rattle.std.proofs.Common.{◌≤◌, ◌-◌, ◌^◌, length}
use Rattle.branch_marks.specs.Settled.{AreDuals}
use Rattle.restricted_master.specs.Pool.{HasRoutes}
use Rattle.node_leaves.specs.Target.{IsBest}
use Rattle.branch_tree.specs.inside.StepParts.{AreToolsFor}
use Rattle.node_leaves.specs.inside.FittingPool.{IsFittingPool}
use Rattle.branch_tree.proofs.settled.settle_node.Given as goal

-- the pool has a route of each aircraft, and they fit
abbrev pub invariant-loop-pool : goal.invariant-loop-pool
invariant-loop-pool l = record {
  tools : AreToolsFor l.table l.book l.net l.marks l.tools;
  duals : AreDuals l.table l.book l.duals.values;
  pool : IsFittingPool l.table l.book l.marks.facts l.pool;
  routes : HasRoutes l.book l.pool;
  best : IsBest l.table l.book l.best.plan l.best.target;
  falls : l.best.target ≤ l.initial.best.target;
}

-- each turn but the last adds a route, and routes are numbered in 32 bits
abbrev pub decreases-loop-pool : goal.decreases-loop-pool
decreases-loop-pool l = 2 ^ 32 - length l.pool.entries
