-- The floors of one aircraft that are kept from step to step, and which of them a further fact leaves.
use Rattle.std.specs.Prelude.{ℕ, ◌≡◌, ◌<◌, ◌≤◌, List, [], ◌∷◌, ◌++◌, length, slice_index_or}
use Rattle.tail_book.specs.Seen.{BookSeen}
use Rattle.tail_book.specs.Lookup.{activities}
use Rattle.branch_marks.specs.declared.fact.Fact.{Fact}
use Rattle.branch_marks.specs.declared.fact.Fact.TheVariants.{Bar, Must, Cut, Tie}
use Rattle.floor_rows.specs.inside.FloorRow.{floor_in, IsRowOf}
use Rattle.floor_rows.specs.inside.LeastOver.{floor_of}
use Rattle.cert_checker.specs.declared.kept_floors.KeptFloors.{KeptFloors}

-- below the number up to which floors are kept, they are those of their aircraft under the marks
pub record AreFloorsUnder (book : BookSeen) (marks : List Fact) (floors : KeptFloors) : Type 0 where
  pub row : IsRowOf book floors.row
  pub within : floors.right ≤ activities book
  pub right : (a : ℕ) → a < floors.right → floor_in floors.row a ≡ floor_of book marks floors.k a

-- what stands where there are no floors
abbrev pub no_floors : KeptFloors
no_floors = record { row = record { width = 0; floors = [] }; k = 0; right = 0 }

-- the floors in the row of a number
abbrev pub floors_at : List KeptFloors → ℕ → KeptFloors
floors_at rows i = slice_index_or rows i no_floors

-- there is a row, and those in each are so
pub record AreAllUnder (book : BookSeen) (marks : List Fact) (rows : List KeptFloors) : Type 0 where
  pub some : 0 < length rows
  pub each : (i : ℕ) → i < length rows → AreFloorsUnder book marks (floors_at rows i)

-- rows that are so are so in turn where one fact more is marked
abbrev pub AreLeftUnder : Fact → List KeptFloors → List KeptFloors → Type 0
AreLeftUnder fact old new = (book : BookSeen) (marks : List Fact) → AreAllUnder book marks old → AreAllUnder book (marks ++ fact ∷ []) new

-- the fact closes no way of aircraft k to an activity below n
abbrev pub LeavesBelow : ℕ → ℕ → Fact → Type 0
LeavesBelow k n (Bar j a) = j ≡ k → n ≤ a
LeavesBelow k n (Must j a) = n ≤ a
LeavesBelow k n (Cut a b) = n ≤ b
LeavesBelow k n (Tie a b) = n ≡ 0

-- so all floors there stay
abbrev pub FloorsBelowStay : Type 0
FloorsBelowStay = (book : BookSeen) (marks : List Fact) (fact : Fact) (k n : ℕ) → LeavesBelow k n fact
    → (a : ℕ) → a < n → a < activities book → floor_of book (marks ++ fact ∷ []) k a ≡ floor_of book marks k a
