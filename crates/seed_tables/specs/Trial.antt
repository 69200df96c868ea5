-- The three texts of a trial: the seed makes the timetable and the fleet, and the rules are the same for all.
use Rattle.std.specs.Prelude.{ℕ, ◌+◌, List, [], ◌∷◌, ◌++◌, codes, map}
use Rattle.seed_tables.specs.Flights.{all_flights, first_airports}
use Rattle.seed_tables.specs.Rows.{aircraft_fields, flight_fields, lines_of}

-- what contracts see of a trial
pub record TrialSeen : Type 0 where
  pub timetable : List ℕ
  pub fleet : List ℕ
  pub rules : List ℕ

-- the timetable of flights
abbrev pub timetable_text : ℕ → List ℕ
timetable_text seed = codes "id,kind,from,to,start,end,types,tags,tail,resets\n" ++ lines_of (map flight_fields (all_flights seed))

-- the records of aircraft from number k on, with the airports where they stand
abbrev pub fleet_rows : ℕ → List ℕ → List (List (List ℕ))
fleet_rows k [] = []
fleet_rows k (at ∷ more) = aircraft_fields k at ∷ fleet_rows (k + 1) more

abbrev pub fleet_text : ℕ → List ℕ
fleet_text seed = codes "tail,type,at,ready,fixed,tags,avoid,carry\n" ++ lines_of (fleet_rows 0 (first_airports seed))

-- two types, five airports and two counters: minutes flown, which a stop of eight hours clears, and landings
abbrev pub rules_text : List ℕ
rules_text =
    codes "[[type]]\nname = \"P\"\nrate = 1\nturn = 30\n[[type]]\nname = \"Q\"\nrate = 2\nturn = 30\n"
    ++ codes "[[airport]]\nname = \"T0\"\noffset = 0\nturn = 20\n[[airport]]\nname = \"T1\"\noffset = 0\nturn = 20\n"
    ++ codes "[[airport]]\nname = \"T2\"\noffset = 0\nturn = 20\n[[airport]]\nname = \"T3\"\noffset = 0\nturn = 20\n"
    ++ codes "[[airport]]\nname = \"T4\"\noffset = 0\nturn = 20\n"
    ++ codes "[[counter]]\nname = \"fh\"\nkind = \"minutes\"\nlimit = 900\nbases = [\"T0\", \"T1\", \"T2\", \"T3\", \"T4\"]\nstop = 480\n"
    ++ codes "[[counter]]\nname = \"ldg\"\nkind = \"landings\"\nlimit = 20\nbases = []\nstop = 1\n"

-- the texts of a seed
abbrev pub trial_of : ℕ → TrialSeen
trial_of seed = record { timetable = timetable_text seed; fleet = fleet_text seed; rules = rules_text }
