use Rattle.std.proofs.Common.{◌≡◌, length, take}
use Rattle.tail_book.specs.inside.OneMore.{end_place}
use Rattle.tail_book.specs.Place.{IsPlaceOf}
use Rattle.tail_book.specs.Route.{IsLegalRoute}
use Rattle.tail_book.specs.inside.Route.{counters_after}
use Rattle.maint_counters.specs.inside.Counts.{AreCounts}
use Rattle.sample_calls.proofs.routes.front_of.Given as goal

-- the activities so far are a legal route, and place and counters are those at its end
abbrev pub invariant-loop-i : goal.invariant-loop-i
invariant-loop-i l = record {
  legal : IsLegalRoute l.book l.k (take l.i l.route);
  there : l.from ≡ end_place (take l.i l.route);
  counted : l.values ≡ counters_after l.book l.k (take l.i l.route);
  place : IsPlaceOf l.book l.from;
  range : AreCounts l.values;
  width : length l.values ≡ length l.book.rules.counters;
}
