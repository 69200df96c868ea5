-- Settled duals and fees: whichever of them is moved within its box, the Lagrangian sum with fees gains less than a cost unit.
-- For src/laws.rt and src/settling.rt.
use Rattle.std.specs.Prelude.{◌≡◌, ℕ, ℤ, pos, ◌<◌, ◌+ℤ◌, ◌<ℤ◌, List, All, length, slice_set}
use Rattle.tail_book.specs.Seen.{BookSeen}
use Rattle.tail_book.specs.TableSeen.{CostTableSeen}
use Rattle.tail_book.specs.Lookup.{activities, aircraft}
use Rattle.tail_book.specs.CostTable.{IsInBox, cost_unit}
use Rattle.branch_marks.specs.declared.fact.Fact.{Fact}
use Rattle.branch_marks.specs.Bound.{value_of}
use Rattle.branch_marks.specs.Pool.{IsFittingEntry}
use Rattle.branch_marks.specs.Settled.{AreDuals, with_dual}
use Rattle.restricted_master.specs.Seen.{PoolSeen}
use Rattle.restricted_master.specs.Pool.{HasRoutes}
use Rattle.quota_rows.specs.declared.quota.Quota.{Quota}
use Rattle.quota_rows.specs.FeeBound.{AreLeastFeeWeights, fee_lagrangian}
use Rattle.quota_rows.specs.FeeWeights.{IsLeastFeeWeight}
use Rattle.quota_rows.specs.Fees.{AreFees, IsFee}
use Rattle.fee_master.specs.PoolSum.{fee_sum_in, fee_value_in, IsPooledAt}

-- the fees with that of quota q changed
abbrev pub with_fee : List ℤ → ℕ → ℤ → List ℤ
with_fee fees q value = slice_set fees q value

-- this is the Lagrangian sum of duals and fees: with the least weight of each aircraft with fees; so none is stuck
abbrev pub IsFeeSum : CostTableSeen → BookSeen → List Quota → List Fact → List ℤ → List ℤ → ℤ → Type 0
IsFeeSum table book quotas marks duals fees sum =
    (values : List ℤ) × AreLeastFeeWeights table book quotas marks duals fees values × (sum ≡ fee_lagrangian quotas duals fees values)

-- duals and fees are settled: there is a sum, taken over each legal route that fits, and moving one dual or one fee within its box gains
-- less than a cost unit
pub record IsSettledWithFees (table : CostTableSeen) (book : BookSeen) (quotas : List Quota) (marks : List Fact) (duals fees : List ℤ) : Type 0 where
  pub duals_of : AreDuals table book duals
  pub fees_of : AreFees table quotas fees
  pub sum : (sum : ℤ) × IsFeeSum table book quotas marks duals fees sum
  pub each_dual : (a : ℕ) → a < activities book → (value : ℤ) → IsInBox table value → (sum raised : ℤ)
      → IsFeeSum table book quotas marks duals fees sum → IsFeeSum table book quotas marks (with_dual duals a value) fees raised
      → raised <ℤ (sum +ℤ pos cost_unit)
  pub each_fee : (q : ℕ) → q < length quotas → (value : ℤ) → IsFee table value → (sum raised : ℤ)
      → IsFeeSum table book quotas marks duals fees sum → IsFeeSum table book quotas marks duals (with_fee fees q value) raised
      → raised <ℤ (sum +ℤ pos cost_unit)

-- they are settled over a pool: it has a route of each aircraft, and the same holds of the sum over it
pub record IsSettledOverPool (table : CostTableSeen) (book : BookSeen) (quotas : List Quota) (pool : PoolSeen) (duals fees : List ℤ) : Type 0 where
  pub duals_of : AreDuals table book duals
  pub fees_of : AreFees table quotas fees
  pub routes : HasRoutes book pool
  pub each_dual : (a : ℕ) → a < activities book → (value : ℤ) → IsInBox table value
      → fee_sum_in table book quotas pool (with_dual duals a value) fees <ℤ (fee_sum_in table book quotas pool duals fees +ℤ pos cost_unit)
  pub each_fee : (q : ℕ) → q < length quotas → (value : ℤ) → IsFee table value
      → fee_sum_in table book quotas pool duals (with_fee fees q value) <ℤ (fee_sum_in table book quotas pool duals fees +ℤ pos cost_unit)

-- where the pool has legal routes that fit alone, and for each aircraft one of its least weight, duals and fees that are settled
-- over the pool are settled
abbrev pub SettledOverPoolIsSettled : Type 0
SettledOverPoolIsSettled = (table : CostTableSeen) (book : BookSeen) (quotas : List Quota) (marks : List Fact) (pool : PoolSeen) (duals fees values : List ℤ)
    → All (IsFittingEntry book marks) pool.entries → IsSettledOverPool table book quotas pool duals fees
    → AreLeastFeeWeights table book quotas marks duals fees values
    → ((k : ℕ) → k < aircraft book → IsPooledAt table book quotas pool duals fees k (value_of values k))
    → IsSettledWithFees table book quotas marks duals fees

-- and such a least weight is the least in the pool
abbrev pub PooledLeastIsLeast : Type 0
PooledLeastIsLeast = (table : CostTableSeen) (book : BookSeen) (quotas : List Quota) (marks : List Fact) (pool : PoolSeen) (duals fees : List ℤ)
    (k : ℕ) (value : ℤ) → All (IsFittingEntry book marks) pool.entries → IsLeastFeeWeight table book quotas marks k duals fees value
    → IsPooledAt table book quotas pool duals fees k value → fee_value_in table book quotas pool duals fees k ≡ value
