-- What is kept while duals and fees move, and what one look, one sweep and the whole climb do. For src/moving.rt and src/settling.rt.
use Rattle.std.specs.Prelude.{◌≡◌, ℕ, ◌<◌, ◌≤◌, ◌+◌, ◌*◌, ◌^◌, ℤ, pos, ◌+ℤ◌, ◌≤ℤ◌, ◌<ℤ◌, Bool, true, false, cond, List, Option, All, length}
use Rattle.tail_book.specs.CostTable.{IsCostTable, IsInBox, box_end, cost_unit, costs_of}
use Rattle.tail_book.specs.Lookup.{activities, aircraft}
use Rattle.tail_book.specs.inside.Sound.{IsBook}
use Rattle.branch_marks.specs.Settled.{AreDuals, with_dual}
use Rattle.restricted_master.specs.Lists.{has, list_at, AreListsOf}
use Rattle.restricted_master.specs.Pool.{HasRoutes, IsPoolFor}
use Rattle.restricted_master.specs.inside.Least.{weight_at}
use Rattle.quota_rows.specs.declared.quota.TheConstants.{QUOTA_LIMIT}
use Rattle.quota_rows.specs.Fees.{AreFees, IsFee}
use Rattle.fee_master.specs.PoolSum.{fee_sum_in, fee_weight_at}
use Rattle.fee_master.specs.SettledFees.{with_fee}
use Rattle.fee_master.specs.declared.fixed.Fixed.{Fixed}
use Rattle.fee_master.specs.declared.best_rise.Range.{Range}
use Rattle.fee_master.specs.declared.lines.Tangent.{Tangent}
use Rattle.fee_master.specs.inside.Lines.{part_at, IsFairWeight, IsGain, IsSearched, IsTangent}
use Rattle.fee_master.specs.inside.Uses.{times_at, AreUses}

-- what stays the same: the book's own costs, a pool for them with a route of each aircraft, its lists, and its uses of at most fifty quotas
pub record IsFixed (fixed : Fixed) : Type 0 where
  pub table_of : fixed.table.now ≡ costs_of fixed.book.now
  pub pool_for : IsPoolFor fixed.table.now fixed.book.now fixed.pool.now
  pub routes : HasRoutes fixed.book.now fixed.pool.now
  pub lists_of : AreListsOf fixed.pool.now (activities fixed.book.now) (aircraft fixed.book.now) fixed.lists.now
  pub few : length fixed.quotas.now ≤ QUOTA_LIMIT
  pub uses_of : AreUses fixed.book.now fixed.pool.now fixed.quotas.now fixed.uses.now

-- the sum over the pool
abbrev pub sum_for : Fixed → List ℤ → List ℤ → ℤ
sum_for fixed duals fees = fee_sum_in fixed.table.now fixed.book.now fixed.quotas.now fixed.pool.now duals fees

-- the sum as a function of a rise, said of it
abbrev pub part_for : Fixed → List ℤ → List ℕ → ℕ → ℤ → ℤ
part_for fixed weights times most rise = part_at fixed.pool.now (aircraft fixed.book.now) weights times most rise

abbrev pub IsTangentFor : Fixed → List ℤ → List ℕ → ℕ → ℤ → Tangent → Type 0
IsTangentFor fixed weights times most rise tangent = IsTangent fixed.pool.now (aircraft fixed.book.now) weights times most rise tangent

abbrev pub IsSearchedFor : Fixed → List ℤ → List ℕ → ℕ → ℤ → ℤ → Range → Type 0
IsSearchedFor fixed weights times most low high range = IsSearched fixed.pool.now (aircraft fixed.book.now) weights times most low high range

abbrev pub IsGainFor : Fixed → List ℤ → List ℕ → ℕ → ℤ → ℤ → Option ℤ → Type 0
IsGainFor fixed weights times most low high rise = IsGain fixed.pool.now (aircraft fixed.book.now) weights times most low high rise

-- what moves: duals and fees in their boxes, and the weight of each route
pub record IsPriced (fixed : Fixed) (duals fees weights : List ℤ) : Type 0 where
  pub duals_of : AreDuals fixed.table.now fixed.book.now duals
  pub fees_of : AreFees fixed.table.now fixed.quotas.now fees
  pub each : length weights ≡ length fixed.pool.now.entries
  pub weighs : (i : ℕ) → i < length fixed.pool.now.entries
      → weight_at weights i ≡ fee_weight_at fixed.table.now fixed.book.now fixed.quotas.now fixed.pool.now duals fees i

-- the scratch that says for one activity whether a route has it is all 0
pub record IsClear (fixed : Fixed) (times : List ℕ) : Type 0 where
  pub each : length times ≡ length fixed.pool.now.entries
  pub none : (i : ℕ) → i < length times → times_at times i ≡ 0

-- each route with activity a has it once
pub record AreTimesOf (fixed : Fixed) (a : ℕ) (times : List ℕ) : Type 0 where
  pub each : length times ≡ length fixed.pool.now.entries
  pub once : (i : ℕ) → i < length times → times_at times i ≡ cond (has fixed.pool.now a i) 1 0

-- no other dual, or fee, in the box gains a cost unit
abbrev pub IsSettledDual : Fixed → List ℤ → List ℤ → ℕ → Type 0
IsSettledDual fixed duals fees a = (value : ℤ) → IsInBox fixed.table.now value
    → sum_for fixed (with_dual duals a value) fees <ℤ (sum_for fixed duals fees +ℤ pos cost_unit)

abbrev pub IsSettledFee : Fixed → List ℤ → List ℤ → ℕ → Type 0
IsSettledFee fixed duals fees q = (value : ℤ) → IsFee fixed.table.now value
    → sum_for fixed duals (with_fee fees q value) <ℤ (sum_for fixed duals fees +ℤ pos cost_unit)

-- the place of a dual or, behind them, of a fee: it is settled there
pub record IsSettledAt (fixed : Fixed) (duals fees : List ℤ) (j : ℕ) : Type 0 where
  pub dual : j < activities fixed.book.now → IsSettledDual fixed duals fees j
  pub fee : (q : ℕ) → j ≡ activities fixed.book.now + q → q < length fixed.quotas.now → IsSettledFee fixed duals fees q

-- the sum gains a cost unit
abbrev pub Gains : Fixed → List ℤ → List ℤ → List ℤ → List ℤ → Type 0
Gains fixed duals fees new_duals new_fees = (sum_for fixed duals fees +ℤ pos cost_unit) ≤ℤ sum_for fixed new_duals new_fees

-- one look: the sum gains a cost unit, or nothing moves and this holds there
abbrev pub Looks : Fixed → Type 0 → List ℤ → List ℤ → List ℤ → List ℤ → Bool → Type 0
Looks fixed there duals fees new_duals new_fees true = Gains fixed duals fees new_duals new_fees
Looks fixed there duals fees new_duals new_fees false = (new_duals ≡ duals) × (new_fees ≡ fees) × there

-- the first so many places are settled
abbrev pub AreSettled : Fixed → List ℤ → List ℤ → ℕ → Type 0
AreSettled fixed duals fees count = (j : ℕ) → j < count → IsSettledAt fixed duals fees j

-- all duals and all fees are settled
abbrev pub AreAllSettled : Fixed → List ℤ → List ℤ → Type 0
AreAllSettled fixed duals fees = AreSettled fixed duals fees (activities fixed.book.now + length fixed.quotas.now)

-- the most that a sum over a pool comes to
abbrev pub greatest_sum : Fixed → ℕ
greatest_sum fixed = (activities fixed.book.now + aircraft fixed.book.now) * 2 ^ 62

-- the box ends early, so weights and uses are fair
pub record ArePricesFair (fixed : Fixed) (duals fees : List ℤ) : Type 0 where
  pub box : box_end fixed.table.now ≤ 8000000001000
  pub weights : (i : ℕ) → i < length fixed.pool.now.entries
      → IsFairWeight (fee_weight_at fixed.table.now fixed.book.now fixed.quotas.now fixed.pool.now duals fees i)
  pub uses : (q : ℕ) → q < length fixed.quotas.now → All (λ n. n ≤ 4000) (list_at fixed.uses.now q)

abbrev pub PricesAreFair : Type 0
PricesAreFair = (fixed : Fixed) (duals fees : List ℤ) → IsBook fixed.book.now → IsCostTable fixed.table.now → IsFixed fixed
    → AreDuals fixed.table.now fixed.book.now duals → AreFees fixed.table.now fixed.quotas.now fees → ArePricesFair fixed duals fees
