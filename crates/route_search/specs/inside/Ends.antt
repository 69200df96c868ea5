-- The least of the ends of an aircraft's routes among the rows of a store, as far as a limit. For src/end.rt.
use Rattle.std.specs.Prelude.{◌≡◌, ℕ, ℤ, pos, ◌<◌, ◌≤ℤ◌, List, Contains, Option, None, Some, IfSome}
use Rattle.tail_book.specs.Seen.{BookSeen}
use Rattle.tail_book.specs.declared.place.Place.TheVariants.{Carry, After}
use Rattle.branch_marks.specs.declared.fact.Fact.{Fact}
use Rattle.branch_marks.specs.Marks.{MayEnd}
use Rattle.label_store.specs.Seen.{StoreSeen}
use Rattle.label_store.specs.Buckets.{row_at}
use Rattle.label_store.specs.Store.{bucket_of}
use Rattle.pricing.specs.declared.end.RouteEnd.{RouteEnd}
use Rattle.pricing.specs.Rows.{weight_of}
use Rattle.pricing.specs.inside.Ends.{IsEnd, IsAtMost}
use Rattle.route_search.specs.declared.end.Ends.{Ends}

-- where there is no end yet the limit is the cut, and the limit is never below the least end
abbrev pub IsEndLimit : ℤ → Option RouteEnd → ℤ → Type 0
IsEndLimit cut None limit = limit ≡ cut
IsEndLimit cut (Some end) limit = (end.value ≤ℤ limit) × (limit ≤ℤ cut)

-- it weighs at most what any row of the bucket of x within the limit does, where aircraft k may end behind x
abbrev pub IsLeastWithinLimitAt : List Fact → ℕ → StoreSeen → Ends → ℕ → Type 0
IsLeastWithinLimitAt marks k store ends x = MayEnd marks k (After x) → (j : ℕ) → Contains (bucket_of store x) j
    → weight_of (row_at store.rows j) ≤ℤ ends.limit → IsAtMost ends.best (weight_of (row_at store.rows j))

-- the best is an end, or there is none; it weighs at most what any end at the carry-in or in the buckets below n does that is
-- within the limit
pub record AreEnds (book : BookSeen) (marks : List Fact) (k : ℕ) (store : StoreSeen) (cut : ℤ) (n : ℕ) (ends : Ends) : Type 0 where
  pub one : IfSome ends.best (IsEnd book marks k store)
  pub limit : IsEndLimit cut ends.best ends.limit
  pub first : MayEnd marks k Carry → pos 0 ≤ℤ ends.limit → IsAtMost ends.best (pos 0)
  pub next : (x : ℕ) → x < n → IsLeastWithinLimitAt marks k store ends x

-- the ends are no heavier than those before, and the limit has not risen
pub record AreNoHeavier (old new : Ends) : Type 0 where
  pub best : (most : ℤ) → IsAtMost old.best most → IsAtMost new.best most
  pub limit : new.limit ≤ℤ old.limit
