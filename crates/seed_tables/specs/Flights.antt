-- The flights of a trial as they are made, each aircraft's one after the other. Moments are minutes since the start of
-- the first day, and airports are numbers from 0 to 4. For src/trial.rt and src/flight.rt.
use Rattle.std.specs.Prelude.{ℕ, zero, suc, ◌+◌, ◌%◌, ◌==◌, ◌||◌, if◌then◌else◌, List, [], ◌∷◌, ◌++◌}
use Rattle.seed_tables.specs.Draws.{after, drawn, next}
use Rattle.seed_tables.specs.declared.flight.Flight.{Flight}

-- minutes on the ground before flight j: 45 and a draw, and ten hours more before flights 5 and 10
abbrev pub stop_before : ℕ → ℕ → ℕ
stop_before j draw = 45 + draw + (if (j == 5) || (j == 10) then 600 else 0)

-- minutes in the air: an hour and a draw
abbrev pub time_aloft : ℕ → ℕ
time_aloft draw = 60 + draw

-- another airport than the one at hand
abbrev pub next_airport : ℕ → ℕ → ℕ
next_airport at draw = (at + 1 + draw) % 5

-- flight j of aircraft k from an airport where it stands since a moment, with the three draws behind a state
abbrev pub flight_of : ℕ → ℕ → ℕ → ℕ → ℕ → Flight
flight_of k j at since x =
    let start = since + stop_before j (drawn (next x) 90) in
    record {
      aircraft = k;
      number = j;
      from = at;
      to = next_airport at (drawn (next (next (next x))) 4);
      start = start;
      end = start + time_aloft (drawn (next (next x)) 120);
    }

-- so many flights of aircraft k, from flight j on
unfoldable pub flights_from : ℕ → ℕ → ℕ → ℕ → ℕ → ℕ → List Flight
flights_from zero k j at since x = []
flights_from (suc more) k j at since x =
    let flight = flight_of k j at since x in
    flight ∷ flights_from more k (j + 1) flight.to flight.end (next (next (next x)))

-- the airport where an aircraft stands at first, with the draw behind a state
abbrev pub first_airport : ℕ → ℕ
first_airport x = drawn (next x) 5

-- the fifteen flights of an aircraft
abbrev pub flights_of : ℕ → ℕ → List Flight
flights_of k x = flights_from 15 k 0 (first_airport x) 0 (next x)

-- the state behind the draws of an aircraft: one for its airport, and three for each flight
abbrev pub behind : ℕ → ℕ
behind x = after 45 (next x)

-- the flights of so many aircraft, from aircraft k on
unfoldable pub all_flights_from : ℕ → ℕ → ℕ → List Flight
all_flights_from zero k x = []
all_flights_from (suc more) k x = flights_of k x ++ all_flights_from more (k + 1) (behind x)

-- the airports where so many aircraft stand at first
unfoldable pub airports_from : ℕ → ℕ → List ℕ
airports_from zero x = []
airports_from (suc more) x = first_airport x ∷ airports_from more (behind x)

-- the eight aircraft of a seed: where they stand at first, and all their flights
abbrev pub first_airports : ℕ → List ℕ
first_airports seed = airports_from 8 seed

abbrev pub all_flights : ℕ → List Flight
all_flights seed = all_flights_from 8 0 seed
