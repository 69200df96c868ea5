-- The lines of a text: the parts between its newlines, with whether a newline ends each.
use Rattle.std.specs.Prelude.{ℕ, Bool, true, false, List, [], ◌∷◌, length, ◌==◌, if◌then◌else◌}
use Rattle.tail_text.specs.Parts.{parts_of}

-- a line of a text: what it holds, and whether a newline ends it
pub record LineSeen : Type 0 where
  pub text : List ℕ
  pub ends : Bool

-- a line of which a newline tells the end, and one that the text's end cuts off
abbrev pub whole_line : List ℕ → LineSeen
whole_line text = record { text = text; ends = true }

abbrev pub cut_line : List ℕ → LineSeen
cut_line text = record { text = text; ends = false }

-- the lines that these parts are: each part is a line, but what stands behind the last newline is one only where it is not empty
abbrev pub lines_among : List (List ℕ) → List LineSeen
lines_among [] = []
lines_among (last ∷ []) = if length last == 0 then [] else cut_line last ∷ []
lines_among (text ∷ next ∷ more) = whole_line text ∷ lines_among (next ∷ more)

-- the lines of a text
abbrev pub lines_of : List ℕ → List LineSeen
lines_of text = lines_among (parts_of 10 text)
