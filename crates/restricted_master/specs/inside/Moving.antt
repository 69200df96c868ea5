-- One dual moves: what it leaves settled, and what it gains, for one look, one visit, one sweep and the whole climb.
use Rattle.std.specs.Prelude.{◌≡◌, ℕ, ℤ, pos, ◌+ℤ◌, ◌-ℤ◌, ◌≤ℤ◌, ◌<ℤ◌, ◌<◌, if◌then◌else◌, List, Bool, true, false, length, slice_index_or}
use Rattle.tail_book.specs.Seen.{BookSeen}
use Rattle.tail_book.specs.TableSeen.{CostTableSeen}
use Rattle.tail_book.specs.CostTable.{IsInBox, cost_unit}
use Rattle.tail_book.specs.Lookup.{activities}
use Rattle.tail_book.specs.Numbers.{contains}
use Rattle.branch_marks.specs.Pool.{Pooled, sum_in}
use Rattle.branch_marks.specs.Settled.{with_dual, IsSettledOver}
use Rattle.restricted_master.specs.inside.Least.{weight_at}

-- no other dual of the activity in the box gains a cost unit
abbrev pub IsSettledAt : CostTableSeen → BookSeen → List Pooled → List ℤ → ℕ → Type 0
IsSettledAt table book pool duals a =
    (value : ℤ) → IsInBox table value → sum_in table book (with_dual duals a value) pool <ℤ (sum_in table book duals pool +ℤ pos cost_unit)

-- so much is taken from the weights of these numbers, and from no other
abbrev pub AreShifted : List ℕ → ℤ → List ℤ → List ℤ → Type 0
AreShifted numbers rise old new = (i : ℕ) → i < length new
    → weight_at new i ≡ (if contains numbers i then weight_at old i -ℤ rise else weight_at old i)

-- one look at an activity: its dual moves and gains a cost unit, or nothing moves and it is settled there
abbrev pub LooksAt : CostTableSeen → BookSeen → List Pooled → ℕ → List ℤ → List ℤ → Bool → Type 0
LooksAt table book pool a old new true = (sum_in table book old pool +ℤ pos cost_unit) ≤ℤ sum_in table book new pool
LooksAt table book pool a old new false = (new ≡ old) × IsSettledAt table book pool old a

-- whether an activity is marked to be looked at
abbrev pub is_due : List Bool → ℕ → Bool
is_due due a = slice_index_or due a false

-- each activity that is not marked is settled
pub record IsWork (table : CostTableSeen) (book : BookSeen) (pool : List Pooled) (duals : List ℤ) (due : List Bool) : Type 0 where
  pub each : length due ≡ activities book
  pub rest : (a : ℕ) → a < activities book → is_due due a ≡ false → IsSettledAt table book pool duals a

-- one visit: the sum gains a cost unit, or no dual moves, the activity is not marked and no other one is marked newly
abbrev pub Visits : CostTableSeen → BookSeen → List Pooled → ℕ → List ℤ → List ℤ → List Bool → List Bool → Bool → Type 0
Visits table book pool a old new before after true = (sum_in table book old pool +ℤ pos cost_unit) ≤ℤ sum_in table book new pool
Visits table book pool a old new before after false =
    (new ≡ old) × (is_due after a ≡ false) × ((b : ℕ) → is_due before b ≡ false → is_due after b ≡ false)

-- one sweep: the sum gains a cost unit, or no dual moves and all of the first activities are settled
abbrev pub Sweeps : CostTableSeen → BookSeen → List Pooled → ℕ → List ℤ → List ℤ → Bool → Type 0
Sweeps table book pool count old new true = (sum_in table book old pool +ℤ pos cost_unit) ≤ℤ sum_in table book new pool
Sweeps table book pool count old new false = (new ≡ old) × ((a : ℕ) → a < count → IsSettledAt table book pool new a)

-- the whole climb: the duals are settled over the pool, their sum is told, and it is no less than that of the old ones
pub record Settles (table : CostTableSeen) (book : BookSeen) (pool : List Pooled) (old new : List ℤ) (sum : ℤ) : Type 0 where
  pub settled : IsSettledOver table book pool new
  pub told : sum ≡ sum_in table book new pool
  pub no_less : sum_in table book old pool ≤ℤ sum_in table book new pool
