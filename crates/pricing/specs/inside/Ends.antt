-- Where an aircraft may end its route among the rows of a store, and the least of these ends. For src/end.rt.
use Rattle.std.specs.Prelude.{◌≡◌, ℕ, ℤ, pos, ◌<◌, ◌≤ℤ◌, List, Contains, Option, None, Some, IfSome}
use Rattle.tail_book.specs.Seen.{BookSeen}
use Rattle.tail_book.specs.declared.place.Place.TheVariants.{Carry, After}
use Rattle.branch_marks.specs.declared.fact.Fact.{Fact}
use Rattle.branch_marks.specs.Marks.{MayEnd}
use Rattle.label_store.specs.Seen.{StoreSeen}
use Rattle.label_store.specs.Buckets.{row_at}
use Rattle.label_store.specs.Store.{bucket_of}
use Rattle.pricing.specs.declared.end.RouteEnd.{RouteEnd}
use Rattle.pricing.specs.Rows.{weight_of}
use Rattle.pricing.specs.inside.Truth.{place_of, row_of, IsKept}

-- aircraft k may end at this row, or at its carry-in where it is none, with this weight
pub record IsEnd (book : BookSeen) (marks : List Fact) (k : ℕ) (store : StoreSeen) (end : RouteEnd) : Type 0 where
  pub kept : IsKept store end.row
  pub may : MayEnd marks k (place_of store end.row)
  pub weighs : weight_of (row_of book k store end.row) ≡ end.value

-- there is an end, and it weighs at most this
abbrev pub IsAtMost : Option RouteEnd → ℤ → Type 0
IsAtMost None most = ⊥
IsAtMost (Some end) most = end.value ≤ℤ most

-- it weighs at most what any row of the bucket of b does, where aircraft k may end behind b
abbrev pub IsLeastAt : List Fact → ℕ → StoreSeen → Option RouteEnd → ℕ → Type 0
IsLeastAt marks k store best b =
    MayEnd marks k (After b) → (j : ℕ) → Contains (bucket_of store b) j → IsAtMost best (weight_of (row_at store.rows j))

-- it is an end, or there is none; and it weighs at most what any end at the carry-in or in the buckets below n does
pub record IsLeastEnd (book : BookSeen) (marks : List Fact) (k : ℕ) (store : StoreSeen) (n : ℕ) (best : Option RouteEnd) : Type 0 where
  pub one : IfSome best (IsEnd book marks k store)
  pub first : MayEnd marks k Carry → IsAtMost best (pos 0)
  pub next : (b : ℕ) → b < n → IsLeastAt marks k store best b
