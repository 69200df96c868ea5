use Rattle.branch_marks.specs.TreeLog.{IsLater}
use Rattle.node_leaves.specs.inside.Leaf.{IsReady}
use Rattle.best_first.specs.inside.Tellings.{AreToldTo}
use Rattle.best_first.proofs.tree_telling.tell_tree.Given as goal

-- the slots so far were told
abbrev pub invariant-loop-p : goal.invariant-loop-p
invariant-loop-p g l = record {
  told : AreToldTo l.table l.book l.target l.links l.slots l.p l.low (g.L.TreeLog.shows l.initial.log) (g.L.TreeLog.shows l.log);
  ready : IsReady l.table l.book l.net l.marks l.prices;
  later : IsLater (g.L.TreeLog.shows l.initial.log) (g.L.TreeLog.shows l.log);
  beside : g.L.TreeLog.beside l.initial.log l.log;
}
