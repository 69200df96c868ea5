use Rattle.std.proofs.Common.{◌<◌, ℕ, get_or}
use Rattle.pricing.specs.inside.Waiting.{IsArrival}
use Rattle.pricing.proofs.airport.each_arrives.Given as goal

abbrev pub invariant-loop-q : goal.invariant-loop-q
invariant-loop-q l = (r : ℕ) → r < l.q → IsArrival l.book l.port (get_or l.flights r 0)
