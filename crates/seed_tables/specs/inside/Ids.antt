-- The ids of a trial's flights, and names that are new one after the other.
use Rattle.std.specs.Prelude.{ℕ, zero, suc, ◌+◌, Bool, true, not, ◌&&◌, List, [], ◌∷◌, ◌++◌}
use Rattle.std.specs.List.{list_any}
use Rattle.std.specs.Str.{bytes_eq}
use Rattle.seed_tables.specs.declared.flight.Flight.{Flight}
use Rattle.seed_tables.specs.Rows.{aircraft_name, flight_id}

abbrev pub id_of : Flight → List ℕ
id_of f = flight_id f.aircraft f.number

-- the ids of so many flights of aircraft k, from flight j on
unfoldable pub ids_from : ℕ → ℕ → ℕ → List (List ℕ)
ids_from zero k j = []
ids_from (suc more) k j = flight_id k j ∷ ids_from more k (j + 1)

-- the ids of the flights of so many aircraft
unfoldable pub all_ids_from : ℕ → ℕ → List (List ℕ)
all_ids_from zero k = []
all_ids_from (suc more) k = ids_from 15 k 0 ++ all_ids_from more (k + 1)

-- each name is none of those before it
unfoldable pub are_new : List (List ℕ) → List (List ℕ) → Bool
are_new before [] = true
are_new before (x ∷ xs) = not (list_any (bytes_eq x) before) && are_new (before ++ x ∷ []) xs

-- the names of aircraft from number k on, one for each airport
abbrev pub aircraft_names : ℕ → List ℕ → List (List ℕ)
aircraft_names k [] = []
aircraft_names k (at ∷ more) = aircraft_name k ∷ aircraft_names (k + 1) more
