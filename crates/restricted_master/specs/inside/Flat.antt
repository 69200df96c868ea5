-- How a pool keeps its routes: one after the other in one list of activities. For src/dropped_routes.rt and src/pool.rt.
use Rattle.std.specs.Prelude.{ℕ, ◌≡◌, ◌≢◌, ◌≤◌, ◌^◌, List, All, AllPairs, length, map, slice_range}
use Rattle.branch_marks.specs.Pool.{Pooled}
use Rattle.restricted_master.specs.declared.entry.Entry.{Entry}
use Rattle.restricted_master.specs.Seen.{PoolSeen}
use Rattle.restricted_master.specs.inside.Hash.{hash_of}

-- what an entry keeps: an aircraft, and the activities from its start to before its end
abbrev pub pooled_in : List ℕ → Entry → Pooled
pooled_in activities entry = record { aircraft = entry.aircraft; route = slice_range activities entry.start entry.end }

-- the pool of these activities and entries
abbrev pub pool_of : List ℕ → List Entry → PoolSeen
pool_of activities entries = record { entries = map (pooled_in activities) entries; costs = map (λ (entry : Entry). entry.cost) entries }

-- the entry lies within so many activities
pub record LiesWithin (size : ℕ) (entry : Entry) : Type 0 where
  pub order : entry.start ≤ entry.end
  pub within : entry.end ≤ size

-- the entry has the hash of its aircraft's route
abbrev pub IsHashed : List ℕ → Entry → Type 0
IsHashed activities entry = entry.hash ≡ hash_of entry.aircraft (slice_range activities entry.start entry.end)

-- every entry lies within the activities and has its hash, no two are the same route of the same aircraft, and they are numbered in 32 bits
pub record IsFlat (activities : List ℕ) (entries : List Entry) : Type 0 where
  pub within : All (LiesWithin (length activities)) entries
  pub hashed : All (IsHashed activities) entries
  pub few : length entries ≤ 2 ^ 32
  pub distinct : AllPairs (λ (one other : Pooled). one ≢ other) (map (pooled_in activities) entries)
