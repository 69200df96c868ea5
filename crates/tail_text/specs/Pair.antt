-- Numbers of two digits at a place of a text, from 0 to 99. For src/pairs.rt.
use Rattle.std.specs.Prelude.{ℕ, ◌+◌, ◌*◌, ◌-◌, Bool, ◌&&◌, List, slice_index}
use Rattle.std.specs.Char.{is_ascii_digit}

-- the byte there is a digit
abbrev pub is_digit_at : List ℕ → ℕ → Bool
is_digit_at s i = is_ascii_digit (slice_index s i)

-- two digits stand there
abbrev pub are_digits_at : List ℕ → ℕ → Bool
are_digits_at s i = is_digit_at s i && is_digit_at s (i + 1)

-- the number that the two digits there write
abbrev pub pair_at : List ℕ → ℕ → ℕ
pair_at s i = (slice_index s i - 48) * 10 + (slice_index s (i + 1) - 48)
