use Rattle.std.proofs.Common.{◌≡◌, ◌<◌, ℕ, length}
use Rattle.pricing.specs.inside.Asked.{IsUnderWay}
use Rattle.label_store.specs.inside.Growth.{IsAsWide}
use Rattle.pricing.specs.inside.Growth.{Grows}
use Rattle.pricing.specs.inside.Waiting.{AreTriedIn, IsWaiting}
use Rattle.pricing.proofs.line_fill.depart_all.Given as goal

-- the lines before that of window i were tried
abbrev pub invariant-loop-i : goal.invariant-loop-i
invariant-loop-i l = record {
  state : IsUnderWay l.asked l.store (length l.row);
  grows : Grows l.b l.initial.store l.store;
  wide : IsAsWide l.initial.store l.store;
  row : length l.row ≡ length l.initial.row;
  waiting : IsWaiting l.asked.book.now l.asked.marks.now.facts l.lines.stand l.lines.windows.now l.store l.waiting;
  tried : (v : ℕ) → v < l.i → AreTriedIn l.asked.table.now l.asked.book.now l.asked.k l.asked.duals.now.values l.initial.store l.store l.lines.windows.now l.b l.waiting v;
}
