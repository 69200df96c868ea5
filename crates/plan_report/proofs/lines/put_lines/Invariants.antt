use Rattle.std.proofs.Common.{◌≡◌, ◌≤◌, false, take}
use Rattle.tail_outside.specs.Outside.{Takes}
use Rattle.plan_report.specs.Lines.{text_of}
use Rattle.plan_report.proofs.lines.put_lines.Given as goal

-- the lines so far were taken
abbrev pub invariant-loop-line : goal.invariant-loop-line
invariant-loop-line g l = record {
  taken : Takes (g.S.Sink.shows l.fn.out) (g.S.Sink.shows l.out) (text_of (take l.line-index l.lines));
  beside : g.S.Sink.beside l.fn.out l.out;
  ceases : (g.S.Sink.shows l.out).ceased ≡ false → (g.S.Sink.shows l.fn.out).ceased ≡ false;
  counts : (g.S.Sink.shows l.fn.out).faults ≤ (g.S.Sink.shows l.out).faults;
}
