-- Which floors became others than they were: flags of activities, for all aircraft together.
-- For src/settled_aircraft.rt, src/carriers.rt and others.
use Rattle.std.specs.Prelude.{ℕ, ◌≡◌, ◌⊎◌, List, Bool, false, None, slice_index_or}
use Rattle.floor_rows.specs.inside.FloorRow.{FloorRowSeen, floor_in}
use Rattle.propagator.specs.inside.Rows.{floors_in}
use Rattle.propagator.specs.inside.Touching.{is_set}

-- no flag is taken back
abbrev pub KeepsFlags : List Bool → List Bool → Type 0
KeepsFlags old new = (i : ℕ) → is_set new i ≡ false → is_set old i ≡ false

-- at each activity the row has the floor that it had, or none any more
abbrev pub LosesFloors : FloorRowSeen → FloorRowSeen → Type 0
LosesFloors row next = (a : ℕ) → (floor_in next a ≡ floor_in row a) ⊎ (floor_in next a ≡ None)

-- so it is where no flag is set
pub record MovesFloors (old new : List Bool) (row next : FloorRowSeen) : Type 0 where
  pub keeps : KeepsFlags old new
  pub floors : (a : ℕ) → is_set new a ≡ false → (floor_in next a ≡ floor_in row a) ⊎ (floor_in next a ≡ None)

-- and so in the row of each aircraft
pub record MovesAll (old new : List Bool) (rows nexts : List FloorRowSeen) : Type 0 where
  pub keeps : KeepsFlags old new
  pub floors : (k a : ℕ) → is_set new a ≡ false
      → (slice_index_or (floors_in nexts k) a None ≡ slice_index_or (floors_in rows k) a None) ⊎ (slice_index_or (floors_in nexts k) a None ≡ None)
