use Rattle.std.proofs.Common.{drop}
use Rattle.tail_book.specs.declared.place.Place.TheVariants.{Carry}
use Rattle.tail_book.specs.inside.Rising.{IsRisingFrom}
use Rattle.small_books.proofs.rising.is_rising.Given as goal

-- what is left decides
abbrev pub invariant-loop-q : goal.invariant-loop-q
invariant-loop-q l = IsRisingFrom l.n l.from (drop l.q l.route) → IsRisingFrom l.n Carry l.route
