-- The parts of a text between bytes of one value: an empty text is one part, which is empty.
use Rattle.std.specs.Prelude.{ℕ, List, ◌==◌}
use Rattle.std.specs.List.{slice_split}

-- the parts of a text between its bytes of this value, one more than it has such bytes
abbrev pub parts_of : ℕ → List ℕ → List (List ℕ)
parts_of byte text = slice_split (λ b. b == byte) text

-- a space, which stands between the items of a field and between the parts of a line
abbrev pub space : ℕ
space = 32
