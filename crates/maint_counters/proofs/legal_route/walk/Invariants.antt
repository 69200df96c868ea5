use Rattle.std.proofs.Common.{◌≡◌, drop, length}
use Rattle.tail_book.specs.LegalTests.{is_legal_route, is_legal_from}
use Rattle.tail_book.specs.Place.{IsPlaceOf}
use Rattle.maint_counters.specs.inside.Counts.{AreCounts}
use Rattle.maint_counters.proofs.legal_route.walk.Given as goal

-- what is left decides, from a place of the book and with counters within their limits
abbrev pub invariant-loop-b : goal.invariant-loop-b
invariant-loop-b l = record {
  decides : is_legal_route l.book l.k l.route ≡ is_legal_from l.book l.k l.from l.values (drop l.b-index l.route);
  place : IsPlaceOf l.book l.from;
  range : AreCounts l.values;
  width : length l.values ≡ length l.book.rules.counters;
}
