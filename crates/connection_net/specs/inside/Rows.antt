-- Compressed rows: where each row starts in one list of numbers.
use Rattle.std.specs.Prelude.{ℕ, ◌+◌, ◌-◌, ◌<◌, ◌≤◌, List, length, map, slice_index, slice_range}
use Rattle.std.specs.List.{range_with_len}

-- row i: the numbers from its start up to the next row's
abbrev pub row_at : List ℕ → List ℕ → ℕ → List ℕ
row_at starts numbers i = slice_range numbers (slice_index starts i) (slice_index starts (i + 1))

-- where the last row ends
abbrev pub last_end : List ℕ → ℕ
last_end starts = slice_index starts (length starts - 1)

-- the rows, one fewer than there are starts; what stands behind the last end is no row
unfoldable pub rows_of : List ℕ → List ℕ → List (List ℕ)
rows_of starts numbers = map (row_at starts numbers) (range_with_len 0 (length starts - 1))

-- the starts rise up to the last end, and the numbers reach that far
pub record AreStarts (starts numbers : List ℕ) : Type 0 where
  pub some : 0 < length starts
  pub rise : (i : ℕ) → i + 1 < length starts → slice_index starts i ≤ slice_index starts (i + 1)
  pub most : (i : ℕ) → i < length starts → slice_index starts i ≤ last_end starts
  pub reach : last_end starts ≤ length numbers
