-- Sets of pairs of a row and a column, as bits: those of all rows, one row after the other, in words of 64.
use Rattle.std.specs.Prelude.{ℕ, ◌+◌, ◌*◌, ◌/◌, ◌%◌, ◌^◌, ◌<◌, ◌≤◌, ◌≡◌, Bool, List, length, nat_eq, slice_index_or}
use Rattle.std.specs.Int.{bit_at}

-- the bits of so many rows of so many columns each, row after row in words of 64
pub record BitRowsSeen : Type 0 where
  pub rows : ℕ
  pub columns : ℕ
  pub words : List ℕ

-- the bit of a number in the words is set
unfoldable pub bit : List ℕ → ℕ → Bool
bit words p = nat_eq (bit_at (slice_index_or words (p / 64) 0) (p % 64)) 1

-- the rows have the pair
abbrev pub has_pair : BitRowsSeen → ℕ → ℕ → Bool
has_pair table row column = bit table.words (row * table.columns + column)

-- there is a bit for each pair, and there are few enough to number them
pub record IsBitRows (table : BitRowsSeen) : Type 0 where
  pub room : table.rows * table.columns ≤ 64 * length table.words
  pub few : 64 * length table.words ≤ 2 ^ 40

-- the rows are as many and as long as before, and have what the change makes of each pair
pub record AreChanged (change : ℕ → ℕ → Bool → Bool) (old new : BitRowsSeen) : Type 0 where
  pub rows : new.rows ≡ old.rows
  pub columns : new.columns ≡ old.columns
  pub pairs : (row column : ℕ) → column < old.columns → has_pair new row column ≡ change row column (has_pair old row column)
