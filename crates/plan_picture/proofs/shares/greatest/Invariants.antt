use Rattle.std.proofs.Common.{◌≡◌, drop, length}
use Rattle.tail_book.specs.Place.{IsPlaceOf}
use Rattle.maint_counters.specs.inside.Counts.{AreCountable}
use Rattle.plan_picture.specs.Shares.{greatest, greatest_from}
use Rattle.plan_picture.proofs.shares.greatest.Given as goal

-- the greatest values so far, and what is left of the route
abbrev pub invariant-loop-b : goal.invariant-loop-b
invariant-loop-b l = record {
  most : greatest l.book l.k l.route ≡ greatest_from l.book l.k l.from l.values.items l.most.items (drop l.b-index l.route);
  place : IsPlaceOf l.book l.from;
  width : length l.values.items ≡ length l.book.rules.counters;
  wide : length l.most.items ≡ length l.book.rules.counters;
  range : AreCountable l.values.items;
}
