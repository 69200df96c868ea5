-- The least of all floors at each activity, where it is known.
use Rattle.std.specs.Prelude.{ℕ, ℤ, ◌≡◌, ◌<◌, List, None, Some, length, slice_index_or}
use Rattle.tail_book.specs.Seen.{BookSeen}
use Rattle.tail_book.specs.Lookup.{activities, aircraft}
use Rattle.tail_book.specs.declared.place.Place.TheVariants.{After}
use Rattle.tail_book.specs.CounterOrder.{EachAtMost}
use Rattle.branch_marks.specs.declared.fact.Fact.{Fact}
use Rattle.branch_marks.specs.Marks.{IsUsable}
use Rattle.floor_rows.specs.inside.FloorRow.{FloorRowSeen, floor_in}
use Rattle.propagator.specs.inside.Rising.{IsLowFor}
use Rattle.propagator.specs.inside.Rows.{floors_in}

-- each floor has a value for each counter
abbrev pub AreWide : BookSeen → FloorRowSeen → Type 0
AreWide book row = (a : ℕ) → a < activities book → (low : List ℤ) → floor_in row a ≡ Some low → length low ≡ length book.rules.counters

-- what was no higher than values is so still
abbrev pub StaysLow : FloorRowSeen → FloorRowSeen → Type 0
StaysLow old new = (a : ℕ) (values : List ℤ) → IsLowFor (floor_in old a) values → IsLowFor (floor_in new a) values

-- a floor that is there is no higher than that of any aircraft
abbrev pub IsLowestOf : BookSeen → List FloorRowSeen → FloorRowSeen → Type 0
IsLowestOf book rows lowest = (k : ℕ) → k < aircraft book → (a : ℕ) → a < activities book → (low values : List ℤ) → floor_in lowest a ≡ Some low
    → slice_index_or (floors_in rows k) a None ≡ Some values → EachAtMost low values

-- some aircraft may use the link from a to b
abbrev pub SomebodyUses : BookSeen → List Fact → ℕ → ℕ → Type 0
SomebodyUses book marks a b = (k : ℕ) × (k < aircraft book) × IsUsable book marks k (After a) b
