use Rattle.std.proofs.Common.{◌≤◌, ◌-◌, ◌^◌, length}
use Rattle.branch_marks.specs.Settled.{AreDuals}
use Rattle.restricted_master.specs.Pool.{HasRoutes}
use Rattle.node_leaves.specs.Target.{IsBest}
use Rattle.node_leaves.specs.inside.FittingPool.{IsFittingPool}
use Rattle.quota_rows.specs.Fees.{AreFees}
use Rattle.quota_node.specs.QuotaNode.{KeepsWherePlanned}
use Rattle.quota_node.specs.inside.Tools.{AreQuotaToolsFor}
use Rattle.quota_node.proofs.settled.settle_node.Given as goal

-- the pool has a route of each aircraft, and they fit
abbrev pub invariant-loop-pool : goal.invariant-loop-pool
invariant-loop-pool l = record {
  tools : AreQuotaToolsFor l.book l.tools;
  duals : AreDuals l.table l.book l.duals.values;
  fees : AreFees l.table l.quotas l.fees.values;
  pool : IsFittingPool l.table l.book l.marks.facts l.pool;
  routes : HasRoutes l.book l.pool;
  best : IsBest l.table l.book l.best.plan l.best.target;
  kept : KeepsWherePlanned l.book l.quotas l.best.plan;
  falls : l.best.target ≤ l.initial.best.target;
}

-- each turn but the last adds a route, and routes are numbered in 32 bits
abbrev pub decreases-loop-pool : goal.decreases-loop-pool
decreases-loop-pool l = 2 ^ 32 - length l.pool.entries
