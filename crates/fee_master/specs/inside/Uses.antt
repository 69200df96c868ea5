-- How often each route of a pool uses each quota, one list for each quota. For src/quota_uses.rt and src/fee_weights.rt.
use Rattle.std.specs.Prelude.{◌≡◌, ℕ, ◌<◌, ◌+ℤ◌, ◌*ℤ◌, ℤ, pos, List, [], ◌∷◌, length, slice_index_or}
use Rattle.tail_book.specs.Seen.{BookSeen}
use Rattle.restricted_master.specs.Seen.{PoolSeen}
use Rattle.restricted_master.specs.Lists.{list_at}
use Rattle.restricted_master.specs.Pool.{route_at}
use Rattle.quota_rows.specs.declared.quota.Quota.{Quota}
use Rattle.quota_rows.specs.KeptPlans.{uses_in}

-- how often the route of a number does it, 0 past the end
abbrev pub times_at : List ℕ → ℕ → ℕ
times_at times i = slice_index_or times i 0

-- the list is of the quota: for each route of the pool how often it uses the quota
pub record AreUsesOf (book : BookSeen) (pool : PoolSeen) (quota : Quota) (times : List ℕ) : Type 0 where
  pub each : length times ≡ length pool.entries
  pub uses : (i : ℕ) → i < length pool.entries → times_at times i ≡ uses_in book quota (route_at pool i)

-- and so each of the lists
abbrev pub AreUses : BookSeen → PoolSeen → List Quota → List (List ℕ) → Type 0
AreUses book pool quotas uses = (length uses ≡ length quotas)
    × ((q : ℕ) → q < length quotas → (quota : Quota) → slice_index_or quotas q quota ≡ quota → AreUsesOf book pool quota (list_at uses q))

-- what the route of a number pays: each fee as often as it uses the quota
abbrev pub paid : List (List ℕ) → List ℤ → ℕ → ℤ
paid [] fees i = pos 0
paid (times ∷ uses) [] i = pos 0
paid (times ∷ uses) (fee ∷ fees) i = (pos (times_at times i) *ℤ fee) +ℤ paid uses fees i
