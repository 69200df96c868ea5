-- Moments as `YYYY-MM-DDTHH:MM`, in minutes since 1970-01-01T00:00 UTC. For src/stamps.rt.
use Rattle.std.specs.Prelude.{ℕ, ◌+◌, ◌*◌, Bool, ◌&&◌, List, length, slice_index, ◌==◌, nat_le, if◌then◌else◌, ℤ, pos, ◌+ℤ◌, ◌*ℤ◌, Option, Some, None, Result, Ok, Err}
use Rattle.tail_book.specs.declared.limits.TheConstants.{DAY}
use Rattle.jiff_core.specs.Calendar.{days_in_month, days_from_civil}
use Rattle.tail_text.specs.Bad.{bad}
use Rattle.tail_text.specs.Clock.{minutes_at}
use Rattle.tail_text.specs.Pair.{are_digits_at, pair_at}
use Rattle.tail_text.specs.declared.bad.Bad.{Bad}

-- the text begins with four digits, a hyphen, two digits, a hyphen and two digits
abbrev pub has_date_shape : List ℕ → Bool
has_date_shape s = are_digits_at s 0 && (are_digits_at s 2 && (slice_index s 4 == 45
    && (are_digits_at s 5 && (slice_index s 7 == 45 && are_digits_at s 8))))

-- the calendar has the day, in the years 1970 to 2199
abbrev pub is_stamp_day : ℕ → ℕ → ℕ → Bool
is_stamp_day y m d = (nat_le 1970 y && nat_le y 2199)
    && ((nat_le 1 m && nat_le m 12) && (nat_le 1 d && nat_le d (days_in_month (pos y) m)))

-- the days from 1970-01-01 to a day that a stamp may have
abbrev pub day_number : ℕ → ℕ → ℕ → Option ℤ
day_number y m d = if is_stamp_day y m d then Some (days_from_civil (pos y) m d) else None

-- the days from 1970-01-01 to the day that the text begins with
abbrev pub day_in : List ℕ → Option ℤ
day_in s = if has_date_shape s
    then day_number (pair_at s 0 * 100 + pair_at s 2) (pair_at s 5) (pair_at s 8)
    else None

-- the minutes from 1970-01-01T00:00 to a minute of a day
abbrev pub moment_at : Option ℤ → Option ℕ → Result ℤ Bad
moment_at (Some day) (Some minutes) = Ok (day *ℤ DAY +ℤ pos minutes)
moment_at (Some day) None = Err bad
moment_at None minutes = Err bad

-- the moment that the text writes, in 1970-01-01T00:00 to 2199-12-31T23:59
abbrev pub stamp_of : List ℕ → Result ℤ Bad
stamp_of s = if length s == 16 && slice_index s 10 == 84
    then moment_at (day_in s) (minutes_at s 11)
    else Err bad
