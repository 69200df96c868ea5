use Rattle.std.proofs.Common.{◌≡◌, ◌++◌, drop}
use Rattle.tail_book.specs.Fliers.{route_by}
use Rattle.tail_book.specs.inside.FlownInTurn.{route_flown_from}
use Rattle.tail_book.proofs.fliers.route_by.Given as goal

-- what was found so far, and what is left
abbrev pub invariant-loop-a : goal.invariant-loop-a
invariant-loop-a l = route_by l.fliers l.k ≡ l.route.items ++ route_flown_from l.k l.a (drop l.a l.fliers)
