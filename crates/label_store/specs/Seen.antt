-- What contracts see of a store of labels, and of its rows: the records of their lists. For src/rows.rt and src/store.rt.
use Rattle.std.specs.Prelude.{ℕ, ℤ, List, Option}

-- a store: the values of each kept row, the number of the row that it came from, its node, and for each node the
-- numbers of the rows in its bucket
pub record StoreSeen : Type 0 where
  pub width : ℕ
  pub rows : List (List ℤ)
  pub parents : List (Option ℕ)
  pub nodes : List ℕ
  pub buckets : List (List ℕ)

-- its rows alone
pub record RowsSeen : Type 0 where
  pub width : ℕ
  pub rows : List (List ℤ)
  pub parents : List (Option ℕ)
  pub nodes : List ℕ
