use Rattle.std.proofs.Common.{◌≤◌}
use Rattle.branch_marks.specs.Settled.{AreDuals}
use Rattle.node_leaves.specs.Target.{IsBest}
use Rattle.node_leaves.specs.inside.Leaf.{IsReady}
use Rattle.branch_tree.proofs.node.try_demands.Given as goal

-- whichever duals were tried last are in the box, and the target has only fallen
abbrev pub invariant-loop-i : goal.invariant-loop-i
invariant-loop-i l = record {
  ready : IsReady l.table l.book l.net l.marks l.prices;
  duals : AreDuals l.table l.book l.duals.values;
  best : IsBest l.table l.book l.best.plan l.best.target;
  falls : l.best.target ≤ l.initial.best.target;
}
