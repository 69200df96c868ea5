use Rattle.std.proofs.Common.{◌<◌, ℕ}
use Rattle.std.specs.List.{Contains}
use Rattle.pricing.specs.inside.Waiting.{IsArrival}
use Rattle.pricing.proofs.airport.has_arrivals.Given as goal

abbrev pub invariant-loop-x : goal.invariant-loop-x
invariant-loop-x l = (y : ℕ) → y < l.x → IsArrival l.book l.port y → Contains l.flights y
