use Rattle.std.proofs.Common.{take}
use Rattle.dive_heuristic.specs.inside.Flown.{TalliesRoute}
use Rattle.dive_heuristic.proofs.tally.note_route.Given as goal

-- the front of the route is counted
abbrev pub invariant-loop-b : goal.invariant-loop-b
invariant-loop-b l = TalliesRoute l.initial.tally l.tally (take l.b-index l.route)
