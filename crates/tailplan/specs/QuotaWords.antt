-- The words of a run under quotas: the program's name, the word `quota`, and the names of three tables and of a table of quotas.
use Rattle.std.specs.Prelude.{ℕ, Bool, false, List, [], ◌∷◌, bytes_eq, codes, Option, None, if◌then◌else◌}
use Rattle.tailplan.specs.FourTexts.{FourNamesSeen, names_behind}

-- the word behind the program's name asks for quotas; a timetable of that name is written as a path
abbrev pub is_quota : List (List ℕ) → Bool
is_quota [] = false
is_quota (program ∷ []) = false
is_quota (program ∷ word ∷ rest) = bytes_eq word (codes "quota")

-- the names that words give which ask for quotas
unfoldable pub quota_of : List (List ℕ) → Option FourNamesSeen
quota_of words = if is_quota words then names_behind words else None
