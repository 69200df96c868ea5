use Rattle.std.proofs.Common.{◌≡◌, ◌+◌, ◌≤◌, drop}
use Rattle.tail_book.specs.Place.{IsPlaceOf}
use Rattle.quota_rows.specs.KeptPlans.{uses_from, uses_in}
use Rattle.fee_master.proofs.quota_uses.uses_in.Given as goal

-- what is counted so far, and what is left from the place on
abbrev pub invariant-loop-b : goal.invariant-loop-b
invariant-loop-b l = record {
  counts : uses_in l.book l.quota l.route ≡ l.count + uses_from l.book l.quota l.from (drop l.b-index l.route);
  place : IsPlaceOf l.book l.from;
  few : l.count ≤ l.b-index;
}
