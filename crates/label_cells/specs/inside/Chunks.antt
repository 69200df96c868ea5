-- How rows are kept in chunks of 1,024 rows: each chunk but the last that has rows is full. For src/cells.rt.
use Rattle.std.specs.Prelude.{ℕ, ℤ, ◌≡◌, ◌≤◌, ◌<◌, ◌*◌, ◌-◌, ◌^◌, List, [], ◌∷◌, ◌++◌, All, length, min}
use Rattle.label_cells.specs.Seen.{CellsSeen, ChunkSeen}
use Rattle.label_cells.specs.Cutting.{rows_in}

-- the values of all chunks, one after the other
unfoldable pub stacked : List ChunkSeen → List ℤ
stacked [] = []
stacked (chunk ∷ chunks) = chunk.values ++ stacked chunks

-- so many rows fill the chunks from the front: the first 1,024 of them the first one, and so on
unfoldable pub AreFilled : ℕ → ℕ → List ChunkSeen → Type 0
AreFilled width count [] = count ≡ 0
AreFilled width count (chunk ∷ chunks) = (length chunk.values ≡ min count 1024 * width) × AreFilled width (count - 1024) chunks

-- a chunk that is claimed and not filled
abbrev pub empty_chunk : ℕ → ChunkSeen
empty_chunk width = record { values = []; room = 1024 * width }

-- chunks of which each has room for 1,024 rows, and so many rows in them
pub record AreChunks (width count : ℕ) (chunks : List ChunkSeen) : Type 0 where
  pub some : 1 ≤ width
  pub fits : 1024 * width < 2 ^ 64
  pub few : length chunks ≤ 2 ^ 53
  pub rooms : All (λ chunk. chunk.room ≡ 1024 * width) chunks
  pub filled : AreFilled width count chunks

-- the rows in these chunks, and how many more there is room for
abbrev pub cells_in : ℕ → ℕ → List ChunkSeen → CellsSeen
cells_in width count chunks = record {
  width = width;
  rows = rows_in width count (stacked chunks);
  spare = length chunks * 1024 - count;
}
