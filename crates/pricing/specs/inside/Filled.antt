-- Buckets that are done: each usable link into their activities was tried. For ForAsked.antt and Laws.antt.
use Rattle.std.specs.Prelude.{ℕ, ℤ, ◌<◌, List, Contains}
use Rattle.tail_book.specs.Seen.{BookSeen}
use Rattle.tail_book.specs.TableSeen.{CostTableSeen}
use Rattle.tail_book.specs.declared.place.Place.TheVariants.{Carry, After}
use Rattle.branch_marks.specs.declared.fact.Fact.{Fact}
use Rattle.branch_marks.specs.Marks.{IsUsable}
use Rattle.branch_marks.specs.Weights.{arc_weight}
use Rattle.label_store.specs.Seen.{StoreSeen}
use Rattle.label_store.specs.Buckets.{row_at}
use Rattle.label_store.specs.Store.{bucket_of}
use Rattle.pricing.specs.inside.Truth.{first_row}
use Rattle.pricing.specs.inside.Growth.{Tried}

-- each row of this bucket, with its values as they stood, was tried on the way from x to b
abbrev pub AreRowsTried : BookSeen → ℕ → StoreSeen → List ℕ → ℤ → ℕ → ℕ → StoreSeen → Type 0
AreRowsTried book k old there arc x b store = (j : ℕ) → Contains there j → Tried book k store arc (After x) b (row_at old.rows j)

-- and that where b may come after x
abbrev pub IsReached : CostTableSeen → BookSeen → List Fact → ℕ → List ℤ → StoreSeen → ℕ → ℕ → StoreSeen → Type 0
IsReached table book marks k duals old x b store =
    IsUsable book marks k (After x) b → AreRowsTried book k old (bucket_of old x) (arc_weight table book k duals (After x) b) x b store

-- the carry-in was tried where b may come first
abbrev pub IsBegun : CostTableSeen → BookSeen → List Fact → ℕ → List ℤ → ℕ → StoreSeen → Type 0
IsBegun table book marks k duals b store =
    IsUsable book marks k Carry b → Tried book k store (arc_weight table book k duals Carry b) Carry b (first_row book k)

-- the bucket of b is done: the carry-in was tried, and each row before b
pub record IsFilled (table : CostTableSeen) (book : BookSeen) (marks : List Fact) (k : ℕ) (duals : List ℤ) (store : StoreSeen) (b : ℕ) : Type 0 where
  pub first : IsBegun table book marks k duals b store
  pub next : (x : ℕ) → x < b → IsReached table book marks k duals store x b store

-- the buckets of the activities below n are done
abbrev pub AreFilled : CostTableSeen → BookSeen → List Fact → ℕ → List ℤ → StoreSeen → ℕ → Type 0
AreFilled table book marks k duals store n = (b : ℕ) → b < n → IsFilled table book marks k duals store b
