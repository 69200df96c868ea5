-- The book of a trial: what its three tables stand for. For RawTrial.antt.
use Rattle.std.specs.Prelude.{ℕ, ◌+◌, ◌%◌, ◌==◌, pos, if◌then◌else◌, true, List, [], ◌∷◌, None, codes, map}
use Rattle.tail_book.specs.Seen.{ActivitySeen, AirportSeen, BookSeen, CounterSeen, RulesSeen, TailSeen}
use Rattle.tail_book.specs.declared.rules.AircraftType.{AircraftType}
use Rattle.tail_book.specs.declared.rules.CounterKind.TheVariants.{Landings, Minutes}
use Rattle.seed_tables.specs.declared.flight.Flight.{Flight}
use Rattle.book_maker.specs.Order.{in_order}
use Rattle.seed_tables.specs.Flights.{all_flights, first_airports}
use Rattle.seed_tables.specs.Rows.{aircraft_name, flight_id}

-- the start of the first day, 2025-03-03, in minutes since 1970-01-01T00:00 UTC
abbrev pub first_minute : ℕ
first_minute = 29_016_000

-- the type of aircraft k by its number, and the types of its flights
abbrev pub kind_made : ℕ → ℕ
kind_made k = if k % 2 == 0 then 0 else 1

abbrev pub types_made : ℕ → List ℕ
types_made k = if k % 2 == 0 then [] else 1 ∷ []

abbrev pub activity_made : Flight → ActivitySeen
activity_made f = record {
  id = flight_id f.aircraft f.number;
  flight = true;
  from = f.from;
  to = f.to;
  start = pos (first_minute + f.start);
  end = pos (first_minute + f.end);
  types = types_made f.aircraft;
  tags = [];
  tail = None;
  resets = [];
}

abbrev pub tail_made : ℕ → ℕ → TailSeen
tail_made k at = record {
  name = aircraft_name k;
  kind = kind_made k;
  at = at;
  ready = pos first_minute;
  fixed = 0;
  tags = [];
  avoid = [];
  carry = pos 0 ∷ pos 0 ∷ [];
}

abbrev pub tails_made : ℕ → List ℕ → List TailSeen
tails_made k [] = []
tails_made k (at ∷ more) = tail_made k at ∷ tails_made (k + 1) more

abbrev pub airport_made : List ℕ → AirportSeen
airport_made name = record { name = name; offset = pos 0; changes = []; turn = pos 20 }

abbrev pub kinds_made : List AircraftType
kinds_made = record { name = codes "P"; rate = 1; turn = pos 30 } ∷ record { name = codes "Q"; rate = 2; turn = pos 30 } ∷ []

abbrev pub airports_made : List AirportSeen
airports_made = airport_made (codes "T0") ∷ airport_made (codes "T1") ∷ airport_made (codes "T2") ∷ airport_made (codes "T3") ∷ airport_made (codes "T4") ∷ []

abbrev pub hours_counter : CounterSeen
hours_counter = record { name = codes "fh"; kind = Minutes; limit = pos 900; bases = 0 ∷ 1 ∷ 2 ∷ 3 ∷ 4 ∷ []; stop = pos 480 }

abbrev pub landings_counter : CounterSeen
landings_counter = record { name = codes "ldg"; kind = Landings; limit = pos 20; bases = []; stop = pos 1 }

abbrev pub rules_made : RulesSeen
rules_made = record { kinds = kinds_made; airports = airports_made; curfews = []; counters = hours_counter ∷ landings_counter ∷ []; bands = [] }

abbrev pub book_with : List ActivitySeen → List TailSeen → BookSeen
book_with activities tails = record { activities = activities; tails = tails; rules = rules_made }

-- the book of a seed
abbrev pub book_made : ℕ → BookSeen
book_made seed = book_with (in_order (map activity_made (all_flights seed))) (tails_made 0 (first_airports seed))
