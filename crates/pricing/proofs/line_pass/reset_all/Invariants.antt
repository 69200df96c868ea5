use Rattle.std.proofs.Common.{◌<◌, ℕ, get_or}
use Rattle.pricing.specs.declared.airport.AirportLines.{AirportLines}
use Rattle.pricing.specs.inside.Airports.{AreAlike, IsFreshAirport}
use Rattle.pricing.proofs.line_pass.reset_all.Given as goal

-- nothing waits at the airports before p
abbrev pub invariant-loop-p : goal.invariant-loop-p
invariant-loop-p l = record {
  fresh : (q : ℕ) (d : AirportLines) → q < l.p → IsFreshAirport (get_or l.airports q d);
  alike : AreAlike l.initial.airports l.airports;
}
