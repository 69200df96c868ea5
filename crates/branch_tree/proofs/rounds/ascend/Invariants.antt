use Rattle.std.proofs.Common.{◌≤◌}
use Rattle.branch_marks.specs.Settled.{AreDuals}
use Rattle.node_leaves.specs.Target.{IsBest}
use Rattle.node_leaves.specs.inside.Leaf.{IsReady}
use Rattle.node_leaves.specs.inside.FittingPool.{IsFittingPool}
use Rattle.branch_tree.proofs.rounds.ascend.Given as goal

-- duals and the center of the ascent stay in the box, and the pool fits
abbrev pub invariant-loop-round : goal.invariant-loop-round
invariant-loop-round l = record {
  ready : IsReady l.table l.book l.net l.marks l.prices;
  duals : AreDuals l.table l.book l.duals.values;
  center : AreDuals l.table l.book l.ascent.best;
  pool : IsFittingPool l.table l.book l.marks.facts l.pool;
  best : IsBest l.table l.book l.best.plan l.best.target;
  falls : l.best.target ≤ l.initial.best.target;
}
