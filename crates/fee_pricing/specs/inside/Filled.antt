-- Buckets that are done: each usable link into their activities was tried. For ForAsked.antt and Laws.antt.
use Rattle.std.specs.Prelude.{ℕ, ℤ, ◌<◌, List, Contains}
use Rattle.tail_book.specs.Seen.{BookSeen}
use Rattle.tail_book.specs.declared.place.Place.{Place}
use Rattle.tail_book.specs.declared.place.Place.TheVariants.{Carry, After}
use Rattle.branch_marks.specs.declared.fact.Fact.{Fact}
use Rattle.branch_marks.specs.Marks.{IsUsable}
use Rattle.label_store.specs.Seen.{StoreSeen}
use Rattle.label_store.specs.Buckets.{row_at}
use Rattle.label_store.specs.Store.{bucket_of}
use Rattle.pricing.specs.inside.Growth.{Tried}
use Rattle.pricing.specs.inside.Truth.{first_row}

-- where b may come after x each row of x, with its values as they stood, was tried on the way from x to b
abbrev pub IsReached : (Place → ℕ → ℤ) → BookSeen → List Fact → ℕ → StoreSeen → ℕ → ℕ → StoreSeen → Type 0
IsReached arc book marks k old x b store = IsUsable book marks k (After x) b
    → (j : ℕ) → Contains (bucket_of old x) j → Tried book k store (arc (After x) b) (After x) b (row_at old.rows j)

-- the carry-in was tried where b may come first
abbrev pub IsBegun : (Place → ℕ → ℤ) → BookSeen → List Fact → ℕ → ℕ → StoreSeen → Type 0
IsBegun arc book marks k b store = IsUsable book marks k Carry b → Tried book k store (arc Carry b) Carry b (first_row book k)

-- the bucket of b is done: the carry-in was tried, and each row before b
pub record IsFilled (arc : Place → ℕ → ℤ) (book : BookSeen) (marks : List Fact) (k : ℕ) (store : StoreSeen) (b : ℕ) : Type 0 where
  pub first : IsBegun arc book marks k b store
  pub next : (x : ℕ) → x < b → IsReached arc book marks k store x b store

-- the buckets of the activities below n are done
abbrev pub AreFilled : (Place → ℕ → ℤ) → BookSeen → List Fact → ℕ → StoreSeen → ℕ → Type 0
AreFilled arc book marks k store n = (b : ℕ) → b < n → IsFilled arc book marks k store b
