-- Texts without a byte that CSV sets apart, and below 128.
use Rattle.std.specs.Prelude.{ℕ, Bool, false, ◌&&◌, List, [], ◌∷◌, nat_le, nat_lt}
use Rattle.std.specs.List.{list_all}

-- a byte from the hyphen on: digits, letters and a colon among others
abbrev pub is_plain_byte : ℕ → Bool
is_plain_byte b = nat_le 45 b && nat_lt b 128

abbrev pub is_plain : List ℕ → Bool
is_plain text = list_all is_plain_byte text

abbrev pub are_plain : List (List ℕ) → Bool
are_plain fields = list_all is_plain fields

-- a record of two fields or more, all of them plain
abbrev pub is_plain_row : List (List ℕ) → Bool
is_plain_row [] = false
is_plain_row (x ∷ []) = false
is_plain_row (x ∷ y ∷ fields) = are_plain (x ∷ y ∷ fields)
