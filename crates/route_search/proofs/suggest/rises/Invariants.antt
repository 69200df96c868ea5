use Rattle.std.proofs.Common.{drop}
use Rattle.tail_book.specs.declared.place.Place.TheVariants.{Carry}
use Rattle.tail_book.specs.inside.Rising.{IsRisingFrom}
use Rattle.route_search.proofs.suggest.rises.Given as goal

-- what is left rises from the place, and then all does
abbrev pub invariant-loop-b : goal.invariant-loop-b
invariant-loop-b l = IsRisingFrom l.n l.from (drop l.b-index l.route) → IsRisingFrom l.n Carry l.route
