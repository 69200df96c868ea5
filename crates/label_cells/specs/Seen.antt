-- What contracts see of rows in chunks: the records of their lists. For src/cells.rt and src/chunk.rt.
use Rattle.std.specs.Prelude.{ℕ, ℤ, List}

-- rows of one width, and how many more can be put without any memory
pub record CellsSeen : Type 0 where
  pub width : ℕ
  pub rows : List (List ℤ)
  pub spare : ℕ

-- one chunk: the values that are written, and how many there is room for
pub record ChunkSeen : Type 0 where
  pub values : List ℤ
  pub room : ℕ
