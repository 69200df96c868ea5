-- The words of a repair: the program's name, the word `repair`, and the names of three tables and of a published plan.
use Rattle.std.specs.Prelude.{ℕ, Bool, false, List, [], ◌∷◌, bytes_eq, codes, Option, None, if◌then◌else◌}
use Rattle.tailplan.specs.FourTexts.{FourNamesSeen, names_behind}

-- the word behind the program's name asks for a repair; a timetable of that name is written as a path
abbrev pub is_repair : List (List ℕ) → Bool
is_repair [] = false
is_repair (program ∷ []) = false
is_repair (program ∷ word ∷ rest) = bytes_eq word (codes "repair")

-- the names that words give which ask for a repair
unfoldable pub repair_of : List (List ℕ) → Option FourNamesSeen
repair_of words = if is_repair words then names_behind words else None
