use Rattle.std.proofs.Common.{◌≡◌, ◌-◌, ◌++◌}
use Rattle.seed_tables.specs.Flights.{airports_from, all_flights_from}
use Rattle.seed_tables.specs.Rows.{lines_of}
use Rattle.seed_tables.specs.Trial.{fleet_rows}
use Rattle.seed_tables.proofs.FlightLemmas.{told}
use Rattle.seed_tables.proofs.trial.add_all.Given as goal

-- what is left of the aircraft is still to be told
abbrev pub invariant-loop-k : goal.invariant-loop-k
invariant-loop-k l = record {
  timetable : l.fn.timetable ++ told (all_flights_from 8 0 l.seed) ≡ l.timetable ++ told (all_flights_from (8 - l.k) l.k l.x);
  fleet : l.fn.fleet ++ lines_of (fleet_rows 0 (airports_from 8 l.seed)) ≡ l.fleet ++ lines_of (fleet_rows l.k (airports_from (8 - l.k) l.x));
}
