use Rattle.pricing.specs.inside.Airports.{AreAirportsTo}
use Rattle.pricing.proofs.airports.airports_of.Given as goal

-- the airports before port are there
abbrev pub invariant-loop-port : goal.invariant-loop-port
invariant-loop-port l = AreAirportsTo l.table.bands l.book l.port l.airports.items
