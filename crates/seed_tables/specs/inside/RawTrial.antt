-- What the records of a trial's tables say, with names in place of numbers.
use Rattle.std.specs.Prelude.{ℕ, ◌+◌, ◌%◌, ◌==◌, pos, if◌then◌else◌, true, List, [], ◌∷◌, map, None, codes}
use Rattle.tail_book.specs.declared.rules.CounterKind.TheVariants.{Landings, Minutes}
use Rattle.timetable_reader.specs.Activity.{RawActivitySeen}
use Rattle.fleet_rules.specs.RawRules.{RawAirportSeen, RawRulesSeen}
use Rattle.fleet_rules.specs.Tail.{RawTailSeen}
use Rattle.fleet_rules.specs.declared.zone_rule.ZoneRule.TheVariants.{Fixed}
use Rattle.seed_tables.specs.declared.flight.Flight.{Flight}
use Rattle.seed_tables.specs.Rows.{aircraft_name, airport_name, flight_id, type_name}
use Rattle.seed_tables.specs.inside.TrialBook.{first_minute, kinds_made}

abbrev pub type_names : ℕ → List (List ℕ)
type_names k = if k % 2 == 0 then [] else codes "Q" ∷ []

abbrev pub raw_flight : Flight → RawActivitySeen
raw_flight f = record {
  id = flight_id f.aircraft f.number;
  flight = true;
  from = airport_name f.from;
  to = airport_name f.to;
  start = pos (first_minute + f.start);
  end = pos (first_minute + f.end);
  types = type_names f.aircraft;
  tags = [];
  tail = None;
  resets = [];
}

abbrev pub raw_tail : ℕ → ℕ → RawTailSeen
raw_tail k at = record {
  name = aircraft_name k;
  kind = type_name k;
  at = airport_name at;
  ready = pos first_minute;
  fixed = 0;
  tags = [];
  avoid = [];
  carry = [];
}

-- aircraft from number k on, with the airports where they stand
abbrev pub raw_tails : ℕ → List ℕ → List RawTailSeen
raw_tails k [] = []
raw_tails k (at ∷ more) = raw_tail k at ∷ raw_tails (k + 1) more

abbrev pub all_airports : List (List ℕ)
all_airports = codes "T0" ∷ codes "T1" ∷ codes "T2" ∷ codes "T3" ∷ codes "T4" ∷ []

abbrev pub raw_airport : List ℕ → RawAirportSeen
raw_airport name = record { name = name; zone = Fixed (pos 0); turn = pos 20 }

abbrev pub raw_rules : RawRulesSeen
raw_rules = record {
  kinds = kinds_made;
  airports = map raw_airport all_airports;
  curfews = [];
  counters = record { name = codes "fh"; kind = Minutes; limit = pos 900; bases = all_airports; stop = pos 480 }
      ∷ record { name = codes "ldg"; kind = Landings; limit = pos 20; bases = []; stop = pos 1 } ∷ [];
  bands = [];
}
