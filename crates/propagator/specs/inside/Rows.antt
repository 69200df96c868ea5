-- The floors of all aircraft: a row for each. For src/settled_aircraft.rt, src/lowest.rt and others.
use Rattle.std.specs.Prelude.{ℕ, ℤ, ◌≡◌, ◌≢◌, List, [], Option, All, length, slice_index_or}
use Rattle.tail_book.specs.Seen.{BookSeen}
use Rattle.tail_book.specs.Lookup.{aircraft}
use Rattle.floor_rows.specs.inside.FloorRow.{FloorRowSeen, IsRowOf}

-- what stands where there is no row
abbrev pub no_row : FloorRowSeen
no_row = record { width = 0; floors = [] }

-- there is a row for each aircraft, with room for the book's floors
pub record AreRowsOf (book : BookSeen) (rows : List FloorRowSeen) : Type 0 where
  pub count : length rows ≡ aircraft book
  pub each : All (IsRowOf book) rows

-- the floors in the row of aircraft k
abbrev pub floors_in : List FloorRowSeen → ℕ → List (Option (List ℤ))
floors_in rows k = (slice_index_or rows k no_row).floors

-- the rows differ at most in that of aircraft k
abbrev pub ChangesOnly : ℕ → List FloorRowSeen → List FloorRowSeen → Type 0
ChangesOnly k old new = (j : ℕ) → j ≢ k → floors_in new j ≡ floors_in old j
