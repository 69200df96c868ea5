-- Rows as they come: what was tried on the way from a place, as far as a limit.
use Rattle.std.specs.Prelude.{ℕ, ℤ, suc, ◌+ℤ◌, ◌<ℤ◌, ◌≤ℤ◌, ◌<◌, ◌⊎◌, ⊤, List, Contains, Option, None, Some}
use Rattle.tail_book.specs.Seen.{BookSeen}
use Rattle.tail_book.specs.TableSeen.{CostTableSeen}
use Rattle.tail_book.specs.declared.place.Place.{Place}
use Rattle.tail_book.specs.declared.place.Place.TheVariants.{Carry, After}
use Rattle.tail_book.specs.Counters.{step, WithinLimits}
use Rattle.branch_marks.specs.declared.fact.Fact.{Fact}
use Rattle.branch_marks.specs.Marks.{IsUsable, FitsFrom}
use Rattle.branch_marks.specs.Weights.{arc_weight, weight_from}
use Rattle.label_store.specs.Seen.{StoreSeen}
use Rattle.label_store.specs.Buckets.{row_at}
use Rattle.label_store.specs.Store.{bucket_of}
use Rattle.label_store.specs.inside.Growth.{GrowsBeside}
use Rattle.label_store.specs.inside.Laws.{IsCoveredAt}
use Rattle.pricing.specs.Rows.{weight_of, counters_of}
use Rattle.pricing.specs.inside.Truth.{first_row, row_after}

-- a route that weighs this behind b is past the limit: whatever completes it, all together weighs more
abbrev pub IsPast : CostTableSeen → BookSeen → List Fact → ℕ → List ℤ → ℤ → ℕ → ℤ → Type 0
IsPast table book marks k duals limit b weight =
    (rest : List ℕ) → FitsFrom book marks k (After b) rest → limit <ℤ (weight +ℤ weight_from table book k duals (After b) rest)

-- from x with this row: what b gives is covered, or past the limit, or passes a counter's
abbrev pub IsTried : CostTableSeen → BookSeen → List Fact → ℕ → List ℤ → ℤ → StoreSeen → Place → List ℤ → ℕ → Type 0
IsTried table book marks k duals limit store x row b =
    WithinLimits book.rules.counters (step book k x b (counters_of row))
    → IsCoveredAt store b (row_after book k (arc_weight table book k duals x b) x b row)
    ⊎ IsPast table book marks k duals limit b (weight_of row +ℤ arc_weight table book k duals x b)

-- and so for each activity that may come next
abbrev pub GoesOnWithin : CostTableSeen → BookSeen → List Fact → ℕ → List ℤ → ℤ → StoreSeen → Place → List ℤ → Type 0
GoesOnWithin table book marks k duals limit store x row =
    (b : ℕ) → IsUsable book marks k x b → IsTried table book marks k duals limit store x row b

-- for each activity that may come next after x, each row of these was tried on the way there, with its values as they stood
abbrev pub AreTried : CostTableSeen → BookSeen → List Fact → ℕ → List ℤ → ℤ → StoreSeen → ℕ → StoreSeen → ℕ → Type 0
AreTried table book marks k duals limit old x store b = IsUsable book marks k (After x) b
    → (j : ℕ) → Contains (bucket_of old x) j → IsTried table book marks k duals limit store (After x) (row_at old.rows j) b

-- no row of the bucket of x weighs less
abbrev pub WeighNoLess : StoreSeen → ℕ → ℤ → Type 0
WeighNoLess store x low = (j : ℕ) → Contains (bucket_of store x) j → low ≤ℤ weight_of (row_at store.rows j)

-- with what an activity adds, and the least behind it, a row of this weight is past the limit; or nothing can come behind it
abbrev pub HasNoRoom : ℤ → ℤ → Option ℤ → ℤ → Type 0
HasNoRoom low added None limit = ⊤
HasNoRoom low added (Some rest) limit = limit <ℤ ((low +ℤ added) +ℤ rest)

-- it goes on from each row of the bucket of x
abbrev pub IsDone : CostTableSeen → BookSeen → List Fact → ℕ → List ℤ → ℤ → StoreSeen → ℕ → Type 0
IsDone table book marks k duals limit store x =
    (j : ℕ) → Contains (bucket_of store x) j → GoesOnWithin table book marks k duals limit store (After x) (row_at store.rows j)

-- it goes on from the carry-in and from each row of the buckets below n: they are closed as far as the limit
pub record AreDone (table : CostTableSeen) (book : BookSeen) (marks : List Fact) (k : ℕ) (duals : List ℤ) (limit : ℤ) (store : StoreSeen) (n : ℕ) : Type 0 where
  pub first : GoesOnWithin table book marks k duals limit store Carry (first_row book k)
  pub next : (x : ℕ) → x < n → IsDone table book marks k duals limit store x

-- rows are added alone, what was covered stays covered, and no bucket below m changes
abbrev pub GrowsFrom : ℕ → StoreSeen → StoreSeen → Type 0
GrowsFrom m old new = GrowsBeside (λ v. v < m) old new

-- the buckets up to a place
abbrev pub up_to : Place → ℕ
up_to Carry = 0
up_to (After x) = suc x
