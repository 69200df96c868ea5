use Rattle.branch_marks.specs.TreeLog.{IsLater}
use Rattle.node_leaves.specs.inside.Leaf.{IsReady, AreCoversBefore}
use Rattle.node_leaves.proofs.covers.note_covers.Given as goal

-- the covers before the next one are noted
abbrev pub invariant-loop-k : goal.invariant-loop-k
invariant-loop-k g l = record {
  covers : AreCoversBefore l.table l.book l.marks.facts l.duals.values l.values l.k (g.L.TreeLog.shows l.initial.log) (g.L.TreeLog.shows l.log);
  later : IsLater (g.L.TreeLog.shows l.initial.log) (g.L.TreeLog.shows l.log);
  beside : g.L.TreeLog.beside l.initial.log l.log;
  ready : IsReady l.table l.book l.net l.marks l.prices;
}
