-- Rows of one width that stand one after the other in one list of values. For inside/Chunks.antt.
use Rattle.std.specs.Prelude.{ℕ, zero, suc, ℤ, List, [], ◌∷◌, take, drop}

-- so many rows, cut from the front of the values
unfoldable pub rows_in : ℕ → ℕ → List ℤ → List (List ℤ)
rows_in width zero values = []
rows_in width (suc count) values = take width values ∷ rows_in width count (drop width values)
