use Rattle.std.proofs.Common.{◌≡◌, ◌≤ℤ◌, ◌<◌, length}
use Rattle.tail_book.specs.Lookup.{activities, start_of}
use Rattle.pricing.specs.inside.Asked.{IsUnderWay}
use Rattle.label_store.specs.inside.Growth.{IsAsWide}
use Rattle.pricing.specs.inside.Filled.{AreFilled}
use Rattle.pricing.specs.inside.Airports.{AreAirports, AreBusy, IsFloor}
use Rattle.pricing.proofs.line_pass.fill_lines.Given as goal

-- the buckets before b are done, and what waits is as it should be
abbrev pub invariant-loop-b : goal.invariant-loop-b
invariant-loop-b l = record {
  state : IsUnderWay l.asked l.store (length l.row);
  wide : IsAsWide l.initial.store l.store;
  filled : AreFilled l.asked.table.now l.asked.book.now l.asked.marks.now.facts l.asked.k l.asked.duals.now.values l.store l.b;
  airports : AreAirports l.asked.table.now.bands l.asked.book.now l.airports;
  busy : AreBusy l.asked.book.now l.asked.marks.now.facts l.asked.k l.floor l.before l.store l.airports;
  earlier : l.b < activities l.asked.book.now → l.before ≤ℤ start_of l.asked.book.now l.b;
  floor : IsFloor l.asked.marks.now.facts l.asked.k l.b l.floor;
  row : length l.row ≡ length l.initial.row;
}
