use Rattle.std.proofs.Common.{◌≡◌, drop}
use Rattle.tail_book.specs.Numbers.{contains}
use Rattle.dive_heuristic.proofs.carrier.route_has.Given as goal

-- what is left of the route decides
abbrev pub invariant-loop-b : goal.invariant-loop-b
invariant-loop-b l = contains l.route l.a ≡ contains (drop l.b-index l.route) l.a
