-- The floors of one aircraft as two flat lists: whether there is a floor, and its values.
use Rattle.std.specs.Prelude.{ℕ, ℤ, ◌≡◌, ◌≢◌, ◌+◌, ◌*◌, ◌≤◌, ⊤, List, [], ◌∷◌, ◌++◌, Bool, Option, None, Some, All, if◌then◌else◌, length, take, drop, slice_index_or, slice_range, slice_set}
use Rattle.tail_book.specs.Seen.{BookSeen}
use Rattle.tail_book.specs.Lookup.{activities}
use Rattle.maint_counters.specs.inside.Counts.{AreCounts}
use Rattle.branch_marks.specs.Floors.{lesser, lesser_floor}

-- what contracts see of the floors: how many values each has, and for each activity its floor or none
pub record FloorRowSeen : Type 0 where
  pub width : ℕ
  pub floors : List (Option (List ℤ))

-- for each flag, where it is set, the next so many values
abbrev pub kept_floors : ℕ → List Bool → List ℤ → List (Option (List ℤ))
kept_floors width [] values = []
kept_floors width (known ∷ flags) values = (if known then Some (take width values) else None) ∷ kept_floors width flags (drop width values)

-- the floor, if there is one, has so many values, and each is a count
abbrev pub IsKept : ℕ → Option (List ℤ) → Type 0
IsKept width None = ⊤
IsKept width (Some values) = (length values ≡ width) × AreCounts values

-- there are values for each flag, and few enough to number them
pub record IsFloorRow (width : ℕ) (flags : List Bool) (values : List ℤ) : Type 0 where
  pub size : length values ≡ length flags * width
  pub few : length flags ≤ 4096
  pub narrow : width ≤ 6
  pub kept : All (IsKept width) (kept_floors width flags values)

-- the values, from a place on lowered to those of a row where these are less
abbrev pub lowered_from : ℕ → List ℤ → List ℤ → List ℤ
lowered_from from row values =
    take from values ++ lesser (slice_range values from (from + length row)) row ++ drop (from + length row) values

-- the floors, where that of b is lowered to these values, or they are made its floor
abbrev pub lowered_at : ℕ → List ℤ → List (Option (List ℤ)) → List (Option (List ℤ))
lowered_at b row floors = slice_set floors b (lesser_floor (slice_index_or floors b None) (Some row))

-- the floor of a number in a row
abbrev pub floor_in : FloorRowSeen → ℕ → Option (List ℤ)
floor_in row a = slice_index_or row.floors a None

-- the rows differ at b alone, where the new one has this floor
pub record IsSetAt (b : ℕ) (floor : Option (List ℤ)) (old new : FloorRowSeen) : Type 0 where
  pub width : new.width ≡ old.width
  pub count : length new.floors ≡ length old.floors
  pub here : floor_in new b ≡ floor
  pub others : (a : ℕ) → a ≢ b → floor_in new a ≡ floor_in old a

-- the row has room for the book's floors
pub record IsRowOf (book : BookSeen) (row : FloorRowSeen) : Type 0 where
  pub width : row.width ≡ length book.rules.counters
  pub count : length row.floors ≡ activities book
