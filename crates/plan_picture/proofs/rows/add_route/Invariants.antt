use Rattle.std.proofs.Common.{◌≡◌, ◌++◌, drop}
use Rattle.tail_book.specs.declared.place.Place.TheVariants.{Carry}
use Rattle.tail_book.specs.Place.{IsPlaceOf}
use Rattle.plan_picture.specs.Rows.{route_lines}
use Rattle.plan_picture.proofs.rows.add_route.Given as goal

-- the lines so far, and those of what is left of the route
abbrev pub invariant-loop-i : goal.invariant-loop-i
invariant-loop-i l = record {
  lines : l.initial.lines.items ++ route_lines l.book l.homes l.first l.rules l.k 0 Carry l.route ≡ l.lines.items ++ route_lines l.book l.homes l.first l.rules l.k l.i l.from (drop l.i l.route);
  place : IsPlaceOf l.book l.from;
}
