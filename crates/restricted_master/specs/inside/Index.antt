-- Where a pool lists the numbers of its routes: by their hashes.
use Rattle.std.specs.Prelude.{ℕ, ◌≡◌, ◌<◌, ◌≤◌, ◌%◌, List, Contains, length}
use Rattle.restricted_master.specs.Seen.{PoolSeen}
use Rattle.restricted_master.specs.Lists.{list_at}
use Rattle.restricted_master.specs.Pool.{aircraft_at, route_at}
use Rattle.restricted_master.specs.declared.index.TheConstants.{LISTS}
use Rattle.restricted_master.specs.inside.Hash.{hash_of}

-- the list that has the number of a route
abbrev pub list_of : PoolSeen → ℕ → ℕ
list_of pool i = hash_of (aircraft_at pool i) (route_at pool i) % LISTS

-- there are so many lists, and each of the first so many routes is in its own
pub record IsIndexed (pool : PoolSeen) (lists : List (List ℕ)) (listed : ℕ) : Type 0 where
  pub each : length lists ≡ LISTS
  pub within : listed ≤ length pool.entries
  pub own : (i : ℕ) → i < listed → Contains (list_at lists (list_of pool i)) i
