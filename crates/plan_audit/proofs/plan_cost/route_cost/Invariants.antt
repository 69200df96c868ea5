use Rattle.std.proofs.Common.{◌≡◌, ◌+◌, drop}
use Rattle.tail_book.specs.CostTable.{route_cost_in, cost_from_in}
use Rattle.tail_book.specs.Place.{IsPlaceOf}
use Rattle.plan_audit.proofs.plan_cost.route_cost.Given as goal

-- the cost so far, and that of the rest of the route
abbrev pub invariant-loop-b : goal.invariant-loop-b
invariant-loop-b l = record {
  costs : route_cost_in l.table l.book l.k l.route ≡ l.cost + cost_from_in l.table l.book l.k l.from (drop l.b-index l.route);
  place : IsPlaceOf l.book l.from;
}
