-- The line of a flight in two halves, as the program adds them. For src/rows.rt.
use Rattle.std.specs.Prelude.{ℕ, List, ◌++◌, codes}
use Rattle.seed_tables.specs.declared.flight.Flight.{Flight}
use Rattle.seed_tables.specs.Rows.{airport_name, flight_id, stamp_text, types_field}

-- the fields up to the airports
abbrev pub first_fields : Flight → List ℕ
first_fields f = flight_id f.aircraft f.number ++ codes ",flight," ++ airport_name f.from ++ codes "," ++ airport_name f.to

-- the fields from the moments on
abbrev pub last_fields : Flight → List ℕ
last_fields f = codes "," ++ stamp_text f.start ++ codes "," ++ stamp_text f.end ++ codes "," ++ types_field f.aircraft ++ codes ",,,\n"
