-- Times of day as `HH:MM`, in minutes since midnight. For src/clocks.rt.
use Rattle.std.specs.Prelude.{ℕ, ◌+◌, ◌*◌, Bool, ◌&&◌, List, length, slice_index, ◌==◌, nat_le, if◌then◌else◌, ℤ, pos, Option, Some, None, Result, Ok, Err}
use Rattle.tail_text.specs.Bad.{bad}
use Rattle.tail_text.specs.Pair.{are_digits_at, pair_at}
use Rattle.tail_text.specs.declared.bad.Bad.{Bad}

-- two digits, a colon and two digits stand there
abbrev pub has_clock_shape_at : List ℕ → ℕ → Bool
has_clock_shape_at s i =
    are_digits_at s i && (slice_index s (i + 2) == 58 && are_digits_at s (i + 3))

-- the minutes from midnight to a minute of an hour, which a day has: hours to 23, minutes to 59
abbrev pub minutes_of : ℕ → ℕ → Option ℕ
minutes_of h m = if nat_le h 23 && nat_le m 59 then Some (h * 60 + m) else None

-- the minutes since midnight of the `HH:MM` that stands there
abbrev pub minutes_at : List ℕ → ℕ → Option ℕ
minutes_at s i = if has_clock_shape_at s i then minutes_of (pair_at s i) (pair_at s (i + 3)) else None

-- the answer to a text that holds these minutes, or none
abbrev pub clock_at : Option ℕ → Result ℤ Bad
clock_at (Some minutes) = Ok (pos minutes)
clock_at None = Err bad

-- the time of day that the text writes, from 00:00 to 23:59
abbrev pub clock_of : List ℕ → Result ℤ Bad
clock_of s = if length s == 5 then clock_at (minutes_at s 0) else Err bad
