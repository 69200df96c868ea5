-- The numbers in a line, each in its one spelling: an aircraft or an activity, a cost, a counter, and a value in
-- thousandths.
use Rattle.std.specs.Prelude.{ℕ, zero, suc, ℤ, pos, negsuc, List, [], ◌∷◌, length, Option, Some, None, option_map, option_and_then, if◌then◌else◌, ◌==◌, nat_le}
use Rattle.std.specs.Result.{result_ok}
use Rattle.tail_book.specs.declared.limits.TheConstants.{COUNTER_LIMIT}
use Rattle.tail_text.specs.Number.{number_of}
use Rattle.cert_lines.specs.declared.cert_line.TheConstants.{VALUE_LIMIT}

-- a number of 32 bits: an aircraft, an activity, or how many there are
abbrev pub small : List ℕ → Option ℕ
small word = result_ok (number_of 4_294_967_295 word)

-- a number of 64 bits: a cost
abbrev pub large : List ℕ → Option ℕ
large word = result_ok (number_of 18_446_744_073_709_551_615 word)

-- a number of at most 2^61: a counter
abbrev pub amount : List ℕ → Option ℤ
amount word = option_map pos (result_ok (number_of VALUE_LIMIT word))

-- the number below 0 that is as far from it
abbrev pub below_zero : ℕ → Option ℤ
below_zero zero = None
below_zero (suc n) = Some (negsuc n)

-- the number below 0 that stands behind a minus
abbrev pub negated : List ℕ → Option ℤ
negated digits = option_and_then below_zero (result_ok (number_of VALUE_LIMIT digits))

-- a number of absolute value at most 2^61: a weight, a dual or the value of a cover
abbrev pub value : List ℕ → Option ℤ
value [] = None
value (c ∷ cs) = if c == 45 then negated cs else amount (c ∷ cs)

-- a number, and nothing else
abbrev pub one_number : List (List ℕ) → Option ℕ
one_number (a ∷ []) = small a
one_number words = None

-- two numbers, and nothing else
abbrev pub two_numbers : List (List ℕ) → Option (ℕ × ℕ)
two_numbers (a ∷ b ∷ []) = option_and_then (λ first. option_map (λ second. (first, second)) (small b)) (small a)
two_numbers words = None

-- a number and a value, and nothing else
abbrev pub number_and_value : List (List ℕ) → Option (ℕ × ℤ)
number_and_value (a ∷ v ∷ []) = option_and_then (λ first. option_map (λ second. (first, second)) (value v)) (small a)
number_and_value words = None

-- one counter after the other
unfoldable pub counters_of : List (List ℕ) → Option (List ℤ)
counters_of [] = Some []
counters_of (word ∷ words) = option_and_then (λ first. option_map (λ rest. first ∷ rest) (counters_of words)) (amount word)

-- counters, of which a book has six at most
abbrev pub counters_in : List (List ℕ) → Option (List ℤ)
counters_in words = if nat_le (length words) COUNTER_LIMIT then counters_of words else None
