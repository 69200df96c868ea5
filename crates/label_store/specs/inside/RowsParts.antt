-- What contracts see of rows with their parents and nodes. For src/bucket.rt and src/rows.rt.
use Rattle.std.specs.Prelude.{ℕ, ℤ, List, [], ◌∷◌, ◌++◌, Option}
use Rattle.label_store.specs.Seen.{RowsSeen}
use Rattle.label_store.specs.declared.rows.Rows.TheInside.{Inside}

-- what these fields show
abbrev pub rows_seen : Inside → RowsSeen
rows_seen r = record { width = r.cells.width; rows = r.cells.rows; parents = r.parents.items; nodes = r.nodes.items }

-- the rows with one more behind them
abbrev pub rows_with : RowsSeen → ℕ → Option ℕ → List ℤ → RowsSeen
rows_with old node parent row = record {
  width = old.width;
  rows = old.rows ++ row ∷ [];
  parents = old.parents ++ parent ∷ [];
  nodes = old.nodes ++ node ∷ [];
}
