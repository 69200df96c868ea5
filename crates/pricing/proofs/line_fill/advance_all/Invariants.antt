use Rattle.std.proofs.Common.{◌≡◌, ◌<◌, ℕ, length, get_or}
use Rattle.label_store.specs.inside.Growth.{IsAsWide}
use Rattle.pricing.specs.inside.Waiting.{AreEntered, ArePending, IsWaiting}
use Rattle.pricing.proofs.line_fill.advance_all.Given as goal

-- the lines before that of window i are up to date
abbrev pub invariant-loop-i : goal.invariant-loop-i
invariant-loop-i l = record {
  waiting : IsWaiting l.asked.book.now l.asked.marks.now.facts l.lines.stand l.lines.windows.now l.store l.waiting;
  entered : AreEntered l.asked.book.now l.asked.marks.now.facts l.lines.stand l.lines.windows.now l.lines.flights.now l.store l.waiting l.entered;
  pending : (v : ℕ) → v < l.i → ArePending l.asked.book.now l.lines.stand l.lines.windows.now l.lines.flights.now v (get_or l.entered v 0);
  wide : IsAsWide l.initial.waiting.keys l.waiting.keys;
  count : length l.entered ≡ length l.initial.entered;
}
