-- The moves that are told above the rows, and by which homes bars are marked. For src/moved.rt.
use Rattle.std.specs.Prelude.{ℕ, List, [], ◌∷◌, ◌++◌, codes, decimal, Option, None, Some, if◌then◌else◌}
use Rattle.plan_homes.specs.Moves.{home_of, is_moved, moves}
use Rattle.plan_report.specs.Lines.{newline}
use Rattle.plan_picture.specs.Fixed.{moved_style}

-- the home that the activity left, where aircraft k moves it
abbrev pub moved_from : List (Option ℕ) → ℕ → ℕ → Option ℕ
moved_from homes k a = if is_moved homes k a then home_of homes a else None

-- the homes by which bars are marked: none where no plan was published before
abbrev pub marked_by : Option (List (Option ℕ)) → List (Option ℕ)
marked_by None = []
marked_by (Some homes) = homes

-- how many activities are moved, below the title
abbrev pub moves_line : ℕ → List ℕ
moves_line count = codes "<text class='moves' x='10' y='82'>" ++ decimal count ++ (codes " moved</text>" ++ newline)

-- that, and how moved bars are drawn, where a plan was published before
abbrev pub moves_lines : Option (List (Option ℕ)) → List (List ℕ) → List (List ℕ)
moves_lines None plan = []
moves_lines (Some homes) plan = moved_style ∷ moves_line (moves homes plan) ∷ []
