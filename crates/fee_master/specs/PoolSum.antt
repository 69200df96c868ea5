-- The Lagrangian sum over a pool with fees: all duals, and the least weight with fees of each aircraft's routes in the pool, less
-- what the fees come to where each quota is used as often as it may be. In thousandths of a cost unit.
-- For src/settling.rt, src/fee_weights.rt and others.
use Rattle.std.specs.Prelude.{◌≡◌, ◌<◌, ◌≤ℤ◌, ℕ, zero, suc, ℤ, pos, if◌then◌else◌, Bool, List, map, length, Option, Some, None}
use Rattle.std.specs.List.{range_with_len}
use Rattle.std.specs.Option.{unwrap_or}
use Rattle.tail_book.specs.Seen.{BookSeen}
use Rattle.tail_book.specs.TableSeen.{CostTableSeen}
use Rattle.tail_book.specs.Lookup.{aircraft}
use Rattle.branch_marks.specs.Pool.{least_with}
use Rattle.restricted_master.specs.Seen.{PoolSeen}
use Rattle.restricted_master.specs.Lists.{is_of}
use Rattle.restricted_master.specs.Pool.{aircraft_at, route_at}
use Rattle.quota_rows.specs.declared.quota.Quota.{Quota}
use Rattle.quota_rows.specs.FeeBound.{fee_lagrangian}
use Rattle.quota_rows.specs.FeeWeights.{fee_weight}

-- the least of what the numbers below n that pass a test weigh, and none where none passes
abbrev pub least_below : (ℕ → Bool) → (ℕ → ℤ) → ℕ → Option ℤ
least_below passes weight zero = None
least_below passes weight (suc n) = if passes n then Some (least_with (weight n) (least_below passes weight n)) else least_below passes weight n

-- what the pool's route of a number weighs with fees
abbrev pub fee_weight_at : CostTableSeen → BookSeen → List Quota → PoolSeen → List ℤ → List ℤ → ℕ → ℤ
fee_weight_at table book quotas pool duals fees i = fee_weight table book quotas (aircraft_at pool i) duals fees (route_at pool i)

-- the least weight with fees of the pool's routes of aircraft k, 0 where the pool has none
abbrev pub fee_value_in : CostTableSeen → BookSeen → List Quota → PoolSeen → List ℤ → List ℤ → ℕ → ℤ
fee_value_in table book quotas pool duals fees k =
    unwrap_or (least_below (is_of pool k) (fee_weight_at table book quotas pool duals fees) (length pool.entries)) (pos 0)

-- and that of each aircraft
abbrev pub fee_values_in : CostTableSeen → BookSeen → List Quota → PoolSeen → List ℤ → List ℤ → List ℤ
fee_values_in table book quotas pool duals fees = map (fee_value_in table book quotas pool duals fees) (range_with_len 0 (aircraft book))

-- the sum over the pool
abbrev pub fee_sum_in : CostTableSeen → BookSeen → List Quota → PoolSeen → List ℤ → List ℤ → ℤ
fee_sum_in table book quotas pool duals fees = fee_lagrangian quotas duals fees (fee_values_in table book quotas pool duals fees)

-- the pool has a route of aircraft k that weighs this with fees
abbrev pub IsPooledAt : CostTableSeen → BookSeen → List Quota → PoolSeen → List ℤ → List ℤ → ℕ → ℤ → Type 0
IsPooledAt table book quotas pool duals fees k value =
    (i : ℕ) × (i < length pool.entries) × (aircraft_at pool i ≡ k) × (fee_weight_at table book quotas pool duals fees i ≡ value)

-- the sum over the pool is no less than before
abbrev pub SumIsNoLess : CostTableSeen → BookSeen → List Quota → PoolSeen → List ℤ → List ℤ → List ℤ → List ℤ → Type 0
SumIsNoLess table book quotas pool duals fees new_duals new_fees =
    fee_sum_in table book quotas pool duals fees ≤ℤ fee_sum_in table book quotas pool new_duals new_fees
