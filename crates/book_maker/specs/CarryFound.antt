-- The carry values of an aircraft, one for each counter.
use Rattle.std.specs.Prelude.{ℕ, ℤ, pos, ◌++◌, Bool, not, List, [], ◌∷◌, length, replicate, slice_set, Result, Ok}
use Rattle.std.specs.List.{list_any}
use Rattle.std.specs.Str.{bytes_eq}
use Rattle.tail_text.specs.Checks.{look, must}
use Rattle.tail_text.specs.declared.codes.TheConstants.{TWICE}
use Rattle.fleet_rules.specs.declared.tail.RawCarry.{RawCarry}
use Rattle.book_maker.specs.NameNumbers.{number_in}

-- whether an item names the counter
abbrev pub is_named : List RawCarry → List ℕ → Bool
is_named items x = list_any (λ item. bytes_eq x item.counter) items

-- the values of the counters with those of the items, behind items that name these counters; a counter may be unknown, or
-- an earlier item may name it
unfoldable pub carry_from : List (List ℕ) → List RawCarry → List ℤ → List RawCarry → Result (List ℤ) ℕ
carry_from counters before values [] = Ok values
carry_from counters before values (item ∷ more) =
    look (number_in counters item.counter) (λ c.
    must (not (is_named before item.counter)) TWICE (
    carry_from counters (before ++ item ∷ []) (slice_set values c item.value) more))

-- the value of each counter: that of its item, and 0 where none names it
abbrev pub carry_in : List (List ℕ) → List RawCarry → Result (List ℤ) ℕ
carry_in counters items = carry_from counters [] (replicate (length counters) (pos 0)) items
