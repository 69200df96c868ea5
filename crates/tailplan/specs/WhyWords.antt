-- The words that ask why no plan is legal: the program's name, the word `why`, and the names of three tables.
use Rattle.std.specs.Prelude.{ℕ, Bool, false, List, [], ◌∷◌, bytes_eq, codes, Option, Some, None, if◌then◌else◌}
use Rattle.run_frame.specs.Tables.{NamesSeen}

-- the word behind the program's name asks why no plan is legal; a timetable of that name is written as a path
abbrev pub is_why : List (List ℕ) → Bool
is_why [] = false
is_why (program ∷ []) = false
is_why (program ∷ word ∷ rest) = bytes_eq word (codes "why")

-- exactly three names stand behind it
abbrev pub tables_behind : List (List ℕ) → Option NamesSeen
tables_behind (program ∷ word ∷ timetable ∷ fleet ∷ rules ∷ []) = Some (record { timetable = timetable; fleet = fleet; rules = rules })
tables_behind words = None

-- the names that words give which ask so
unfoldable pub why_of : List (List ℕ) → Option NamesSeen
why_of words = if is_why words then tables_behind words else None
