-- Labels that wait at an airport, and when one of them stands for another.
use Rattle.std.specs.Prelude.{ℕ, ℤ, pos, ◌≡◌, ◌+ℤ◌, ◌-ℤ◌, ◌≤ℤ◌, ◌<ℤ◌, ◌≤◌, ◌⊎◌, ⊤, ◌&&◌, if◌then◌else◌, Bool, true, List, [], ◌∷◌, All}
use Rattle.tail_book.specs.Seen.{BookSeen, CounterSeen}
use Rattle.tail_book.specs.TableSeen.{CostTableSeen}
use Rattle.tail_book.specs.declared.place.Place.TheVariants.{After}
use Rattle.tail_book.specs.declared.rules.Band.{Band}
use Rattle.tail_book.specs.declared.rules.CounterKind.{CounterKind}
use Rattle.tail_book.specs.declared.rules.CounterKind.TheVariants.{Minutes, Landings, Days}
use Rattle.tail_book.specs.Numbers.{contains, int_le}
use Rattle.tail_book.specs.Lookup.{from_port, end_of}
use Rattle.tail_book.specs.Cost.{band_cost}
use Rattle.tail_book.specs.Link.{gap}
use Rattle.tail_book.specs.CounterOrder.{EachAtMost}
use Rattle.maint_counters.specs.inside.Counts.{AreCounts}
use Rattle.branch_marks.specs.Weights.{arc_weight}
use Rattle.pricing.specs.Rows.{counters_of}
use Rattle.pricing.specs.inside.Truth.{row_after}

-- a band ends before lo minutes on the ground, or not before hi
abbrev pub EndsOutside : ℤ → ℤ → Band → Type 0
EndsOutside lo hi band = (band.upto <ℤ lo) ⊎ (hi ≤ℤ (band.upto +ℤ pos 1))

-- a stop at an airport is reached by lo minutes, or not before hi
abbrev pub StopsOutside : ℕ → ℤ → ℤ → CounterSeen → Type 0
StopsOutside port lo hi counter = contains counter.bases port ≡ true → (counter.stop ≤ℤ lo) ⊎ (hi ≤ℤ counter.stop)

-- a stay of lo minutes at an airport clears the counter
abbrev pub clears : ℕ → ℤ → CounterSeen → Bool
clears port lo counter = contains counter.bases port && int_le counter.stop lo

-- from lo minutes on the ground at an airport up to but not including hi no band ends and no stop is reached; in a lasting
-- window no stay of lo minutes or more costs more than one of lo minutes
pub record IsWindow (bands : List Band) (counters : List CounterSeen) (port : ℕ) (lo hi : ℤ) (lasting : Bool) : Type 0 where
  pub flat : All (EndsOutside lo hi) bands
  pub stops : All (StopsOutside port lo hi) counters
  pub forward : pos 0 ≤ℤ lo
  pub steady : lasting ≡ true → (minutes : ℤ) → lo ≤ℤ minutes → band_cost bands minutes ≤ band_cost bands lo

-- a counter while its aircraft waits: days as the value less the moment of arrival, so that waiting does not change it
abbrev pub key_by : CounterKind → ℤ → ℤ → ℤ
key_by Minutes arrival value = value
key_by Landings arrival value = value
key_by Days arrival value = value -ℤ arrival

-- and 0 where a stay of lo minutes clears it
abbrev pub key_one : ℕ → ℤ → ℤ → CounterSeen → ℤ → ℤ
key_one port lo arrival counter value = if clears port lo counter then pos 0 else key_by counter.kind arrival value

abbrev pub keys : ℕ → ℤ → ℤ → List CounterSeen → List ℤ → List ℤ
keys port lo arrival [] values = []
keys port lo arrival (counter ∷ counters) [] = []
keys port lo arrival (counter ∷ counters) (value ∷ values) = key_one port lo arrival counter value ∷ keys port lo arrival counters values

-- what a line compares of a label: its weight, the moment of arrival with its sign turned where the window is no lasting one,
-- and its counters as they stand at lo minutes
abbrev pub key_row : BookSeen → ℕ → ℤ → Bool → ℕ → List ℤ → List ℤ
key_row book port lo lasting x [] = []
key_row book port lo lasting x (weight ∷ values) =
    weight ∷ (if lasting then pos 0 else pos 0 -ℤ end_of book x) ∷ keys port lo (end_of book x) book.rules.counters values

-- a row has a weight
abbrev pub IsRow : List ℤ → Type 0
IsRow [] = ⊥
IsRow (weight ∷ values) = ⊤

-- the law of waiting: of two labels that have waited for lo minutes, the one that is at most the other in a line gives a row
-- that covers the other's, at every departure before the other has waited for hi minutes
abbrev pub WaitingKeepsOrder : Type 0
WaitingKeepsOrder = (table : CostTableSeen) (book : BookSeen) (k : ℕ) (duals : List ℤ) (lo hi : ℤ) (lasting : Bool) (x y b : ℕ) (row other : List ℤ)
    → IsWindow table.bands book.rules.counters (from_port book b) lo hi lasting
    → lo ≤ℤ gap book k (After x) b → lo ≤ℤ gap book k (After y) b → gap book k (After y) b <ℤ hi
    → IsRow row → IsRow other → AreCounts (counters_of other)
    → EachAtMost (key_row book (from_port book b) lo lasting x row) (key_row book (from_port book b) lo lasting y other)
    → EachAtMost (row_after book k (arc_weight table book k duals (After x) b) (After x) b row)
    (row_after book k (arc_weight table book k duals (After y) b) (After y) b other)
