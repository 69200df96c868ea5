use Rattle.std.proofs.Common.{take}
use Rattle.branch_marks.specs.TreeLog.{Notes, IsLater}
use Rattle.node_leaves.proofs.notes.note_all.Given as goal

-- the events before the next one are noted
abbrev pub invariant-loop-i : goal.invariant-loop-i
invariant-loop-i g l = record {
  noted : Notes (g.L.TreeLog.shows l.initial.log) (g.L.TreeLog.shows l.log) (take l.i l.events);
  later : IsLater (g.L.TreeLog.shows l.initial.log) (g.L.TreeLog.shows l.log);
  beside : g.L.TreeLog.beside l.initial.log l.log;
}
