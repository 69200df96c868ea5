-- The records of a trial's timetable and fleet, field for field, and their lines.
use Rattle.std.specs.Prelude.{ℕ, ◌+◌, ◌/◌, ◌%◌, ◌==◌, if◌then◌else◌, List, [], ◌∷◌, ◌++◌, codes}
use Rattle.seed_tables.specs.declared.flight.Flight.{Flight}

-- the last digit of a number, and its last two
abbrev pub digit : ℕ → ℕ
digit n = 48 + n % 10

abbrev pub two_digits : ℕ → List ℕ
two_digits n = digit (n / 10) ∷ digit n ∷ []

-- the names of the aircraft `A0` to `A7`, of the airports `T0` to `T4`, and of the flights `K0N00` to `K7N14`
abbrev pub aircraft_name : ℕ → List ℕ
aircraft_name k = codes "A" ++ digit k ∷ []

abbrev pub airport_name : ℕ → List ℕ
airport_name p = codes "T" ++ digit p ∷ []

abbrev pub flight_id : ℕ → ℕ → List ℕ
flight_id k j = codes "K" ++ digit k ∷ codes "N" ++ two_digits j

-- every second aircraft is of the dearer type `Q`, the others of type `P`
abbrev pub type_name : ℕ → List ℕ
type_name k = if k % 2 == 0 then codes "P" else codes "Q"

-- the types that may fly a flight made for aircraft k: all where it is of type `P`, and `Q` alone where it is of that
abbrev pub types_field : ℕ → List ℕ
types_field k = if k % 2 == 0 then [] else codes "Q"

-- a minute of the first days of March 2025, from the start of the 3rd on
abbrev pub stamp_text : ℕ → List ℕ
stamp_text minute =
    codes "2025-03-" ++ two_digits (3 + minute / 1440) ++ codes "T" ++ two_digits (minute / 60 % 24) ++ codes ":" ++ two_digits (minute % 60)

-- the record of a flight
abbrev pub flight_fields : Flight → List (List ℕ)
flight_fields f =
    flight_id f.aircraft f.number ∷ codes "flight" ∷ airport_name f.from ∷ airport_name f.to ∷ stamp_text f.start ∷ stamp_text f.end
    ∷ types_field f.aircraft ∷ [] ∷ [] ∷ [] ∷ []

-- the record of aircraft k, which stands at an airport from the start of the first day
abbrev pub aircraft_fields : ℕ → ℕ → List (List ℕ)
aircraft_fields k at =
    aircraft_name k ∷ type_name k ∷ airport_name at ∷ codes "2025-03-03T00:00" ∷ codes "0" ∷ [] ∷ [] ∷ [] ∷ []

-- the fields behind the first, each after a comma, and a newline at the end
abbrev pub rest_of_line : List (List ℕ) → List ℕ
rest_of_line [] = 10 ∷ []
rest_of_line (field ∷ more) = 44 ∷ field ++ rest_of_line more

-- the line of a record
abbrev pub line_of : List (List ℕ) → List ℕ
line_of [] = rest_of_line []
line_of (field ∷ more) = field ++ rest_of_line more

-- the lines of records
abbrev pub lines_of : List (List (List ℕ)) → List ℕ
lines_of [] = []
lines_of (row ∷ more) = line_of row ++ lines_of more
