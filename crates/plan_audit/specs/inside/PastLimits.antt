-- A counter before a leg, and how far from 0 so many legs can bring it.
use Rattle.std.specs.Prelude.{ℕ, ℤ, pos, ◌+ℤ◌, ◌*ℤ◌, ◌≤ℤ◌, slice_index_or}
use Rattle.tail_book.specs.Seen.{BookSeen}
use Rattle.tail_book.specs.Lookup.{carry_of}
use Rattle.tail_book.specs.declared.limits.TheConstants.{LAST_MOMENT, VALUE_LIMIT}
use Rattle.tail_book.specs.declared.place.Place.{Place}
use Rattle.tail_book.specs.declared.place.Place.TheVariants.{Carry, After}

-- counter c before a leg: as the aircraft comes in, and else as the leg before left it
abbrev pub value_before : BookSeen → ℕ → Place → ℕ → ℤ → ℤ
value_before book k Carry c value = slice_index_or (carry_of book k) c (pos 0)
value_before book k (After x) c value = value

-- no farther off than so many legs can bring a value that an aircraft comes in with: each counts or takes away at most
-- the minutes of the calendar
pub record IsWithinLegs (legs : ℕ) (value : ℤ) : Type 0 where
  pub least : pos 0 ≤ℤ (value +ℤ (pos legs *ℤ LAST_MOMENT))
  pub most : value ≤ℤ (VALUE_LIMIT +ℤ (pos legs *ℤ LAST_MOMENT))
