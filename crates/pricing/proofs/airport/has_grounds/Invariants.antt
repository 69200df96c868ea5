use Rattle.std.proofs.Common.{◌<◌, ℕ}
use Rattle.std.specs.List.{Contains}
use Rattle.pricing.specs.inside.Airports.{IsGround}
use Rattle.pricing.proofs.airport.has_grounds.Given as goal

abbrev pub invariant-loop-x : goal.invariant-loop-x
invariant-loop-x l = (y : ℕ) → y < l.x → IsGround l.book l.port y → Contains l.grounds y
