use Rattle.std.proofs.Common.{◌≡◌, ◌+◌, ◌*◌, ◌≤◌, drop}
use Rattle.tail_book.specs.CostTable.{cost_from_in, route_cost_in}
use Rattle.tail_book.specs.Place.{IsPlaceOf}
use Rattle.restricted_master.proofs.costing.route_cost.Given as goal

-- what is left is missing, and each activity adds at most both maxima
abbrev pub invariant-loop-q : goal.invariant-loop-q
invariant-loop-q l = record {
  so_far : l.cost + cost_from_in l.table l.book l.k l.from (drop l.q l.route) ≡ route_cost_in l.table l.book l.k l.route;
  place : IsPlaceOf l.book l.from;
  most : l.cost ≤ l.q * (l.table.fly_max + l.table.band_max);
}
