use Rattle.std.proofs.Common.{◌≡◌, ◌≤◌, ◌<◌, ◌*◌, ◌-◌, ◌++◌}
use Rattle.seed_tables.specs.Draws.{after}
use Rattle.seed_tables.specs.Flights.{flights_from}
use Rattle.seed_tables.proofs.FlightLemmas.{told}
use Rattle.seed_tables.proofs.trial.add_flights.Given as goal

-- what is left of the flights is still to be told
abbrev pub invariant-loop-j : goal.invariant-loop-j
invariant-loop-j l = record {
  place : l.at < 5;
  early : l.since ≤ l.j * 1000;
  text : l.fn.timetable ++ told (flights_from 15 l.k 0 l.first 0 l.fn.x) ≡ l.timetable ++ told (flights_from (15 - l.j) l.k l.j l.at l.since l.x);
  state : after 45 l.fn.x ≡ after (45 - 3 * l.j) l.x;
}
