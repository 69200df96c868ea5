-- Whole numbers in digits, with no zero in front. For src/numbers.rt.
use Rattle.std.specs.Prelude.{ℕ, ◌+◌, ◌*◌, ◌-◌, Bool, ◌&&◌, List, [], ◌∷◌, length, slice_index, ◌==◌, not, nat_le, nat_lt, if◌then◌else◌, Result, Ok, Err}
use Rattle.std.specs.Char.{is_ascii_digit}
use Rattle.std.specs.List.{list_all}
use Rattle.tail_text.specs.Bad.{bad}
use Rattle.tail_text.specs.declared.bad.Bad.{Bad}

-- the number that these digits write after those of n
abbrev pub value_after : ℕ → List ℕ → ℕ
value_after n [] = n
value_after n (d ∷ ds) = value_after (n * 10 + (d - 48)) ds

-- a zero, and more behind it
abbrev pub has_leading_zero : List ℕ → Bool
has_leading_zero ds = nat_lt 1 (length ds) && slice_index ds 0 == 48

-- one digit or more, and no zero before others
abbrev pub is_numeral : List ℕ → Bool
is_numeral ds = not (length ds == 0) && (not (has_leading_zero ds) && list_all is_ascii_digit ds)

-- the number that the digits write, where it is at most max
abbrev pub number_of : ℕ → List ℕ → Result ℕ Bad
number_of max ds =
    if is_numeral ds && nat_le (value_after 0 ds) max then Ok (value_after 0 ds) else Err bad
