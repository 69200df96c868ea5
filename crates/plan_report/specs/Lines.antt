-- Lines that are printed, one after the other: each brings its own newline, so their text is all of them joined.
use Rattle.std.specs.Prelude.{ℕ, List, [], ◌∷◌, ◌++◌}

-- the end of a line
abbrev pub newline : List ℕ
newline = 10 ∷ []

-- the text of lines
abbrev pub text_of : List (List ℕ) → List ℕ
text_of [] = []
text_of (line ∷ lines) = line ++ text_of lines
