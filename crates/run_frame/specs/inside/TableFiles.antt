-- The names of a run as contracts see them, and the fronts of what is held.
use Rattle.std.specs.Prelude.{ℕ, List, take}
use Rattle.run_frame.specs.Tables.{NamesSeen, TablesSeen}
use Rattle.run_frame.specs.declared.table_files.TheConstants.{READ_LIMIT}
use Rattle.run_frame.specs.declared.tables.TableNames.{TableNames}

-- the names, as bytes
abbrev pub names_seen : TableNames → NamesSeen
names_seen names = record { timetable = names.timetable.now; fleet = names.fleet.now; rules = names.rules.now }

-- as much of a file as is read
abbrev pub front : List ℕ → List ℕ
front bytes = take READ_LIMIT bytes

-- as much of the tables as is read
abbrev pub fronts : TablesSeen → TablesSeen
fronts tables = record { timetable = front tables.timetable; fleet = front tables.fleet; rules = front tables.rules }
