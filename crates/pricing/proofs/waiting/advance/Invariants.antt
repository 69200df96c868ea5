use Rattle.label_store.specs.inside.Growth.{IsAsWide}
use Rattle.pricing.specs.inside.Waiting.{HaveEntered, IsWaiting, Joins}
use Rattle.pricing.proofs.waiting.advance.Given as goal

-- the flights before place q have entered
abbrev pub invariant-loop-q : goal.invariant-loop-q
invariant-loop-q l = record {
  waiting : IsWaiting l.asked.book.now l.asked.marks.now.facts l.lines.stand l.lines.windows.now l.store l.waiting;
  joins : Joins l.i l.initial.waiting l.waiting;
  entered : HaveEntered l.asked.book.now l.asked.marks.now.facts l.lines.stand l.lines.windows.now l.lines.flights.now l.store l.waiting l.i l.q;
  wide : IsAsWide l.initial.waiting.keys l.waiting.keys;
}
