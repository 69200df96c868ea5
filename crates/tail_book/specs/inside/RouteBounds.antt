-- What a route costs at most, legal or not: it has no more activities than the book where its numbers rise.
-- For src/laws/bounds.rt.
use Rattle.std.specs.Prelude.{ℕ, ℤ, pos, ◌+◌, ◌*◌, ◌^◌, ◌-ℤ◌, ◌<◌, ◌≤◌, List, All, length, map}
use Rattle.tail_book.specs.declared.limits.TheConstants.{LEG_COST_LIMIT}
use Rattle.tail_book.specs.Seen.{BookSeen}
use Rattle.tail_book.specs.TableSeen.{CostTableSeen}
use Rattle.tail_book.specs.declared.place.Place.{Place}
use Rattle.tail_book.specs.Lookup.{activities}
use Rattle.tail_book.specs.Cost.{cost_from}
use Rattle.tail_book.specs.CostTable.{IsCostTable, IsTableFor, IsInBox, cost_unit, cost_from_in, greatest_cost_in}
use Rattle.tail_book.specs.inside.Bounds.{greatest_cost}
use Rattle.tail_book.specs.inside.Rising.{IsRisingFrom}
use Rattle.tail_book.specs.Ranges.{IsWithin}
use Rattle.tail_book.specs.inside.Sound.{IsBook}
use Rattle.tail_book.specs.Sums.{total}

-- numbers that rise below n are at most n
abbrev pub RisingRoutesAreShort : Type 0
RisingRoutesAreShort = (n : ℕ) (x : Place) (route : List ℕ) → IsRisingFrom n x route → length route ≤ n

-- and each of them is below n
abbrev pub RisingRoutesAreBelow : Type 0
RisingRoutesAreBelow = (n : ℕ) (x : Place) (route : List ℕ) → IsRisingFrom n x route → All (λ a. a < n) route

-- a route of the book's activities costs at most two million for each of its own
abbrev pub RoutesCostAtMost : Type 0
RoutesCostAtMost = (book : BookSeen) → IsBook book → (k : ℕ) (x : Place) (route : List ℕ) → All (λ a. a < activities book) route
    → cost_from book k x route ≤ LEG_COST_LIMIT * length route

-- so where its numbers rise, it costs at most what bounds every legal plan
abbrev pub RisingRoutesCostAtMost : Type 0
RisingRoutesCostAtMost = (book : BookSeen) → IsBook book → (k : ℕ) (x : Place) (route : List ℕ) → IsRisingFrom (activities book) x route
    → cost_from book k x route ≤ greatest_cost book

-- by a table any route costs at most the two maxima for each of its activities
abbrev pub RoutesCostAtMostIn : Type 0
RoutesCostAtMostIn = (table : CostTableSeen) (book : BookSeen) → IsCostTable table → (k : ℕ) (x : Place) (route : List ℕ)
    → cost_from_in table book k x route ≤ length route * (table.fly_max + table.band_max)

-- and where its numbers rise, what bounds every legal plan by the table
abbrev pub RisingRoutesCostAtMostIn : Type 0
RisingRoutesCostAtMostIn = (table : CostTableSeen) (book : BookSeen) → IsCostTable table → IsTableFor book table → (k : ℕ) (x : Place) (route : List ℕ)
    → IsRisingFrom (activities book) x route → cost_from_in table book k x route ≤ greatest_cost_in table

-- so with duals in the box the reduced cost of a route whose numbers rise lies within 2^61 of 0, in thousandths
abbrev pub ReducedCostsAreSmall : Type 0
ReducedCostsAreSmall = (table : CostTableSeen) (book : BookSeen) → IsCostTable table → IsTableFor book table
    → (dual : ℕ → ℤ) → ((a : ℕ) → a < activities book → IsInBox table (dual a))
    → (k : ℕ) (x : Place) (route : List ℕ) → IsRisingFrom (activities book) x route
    → IsWithin (pos 0 -ℤ pos (2 ^ 61)) (pos (2 ^ 61)) (pos (cost_unit * cost_from_in table book k x route) -ℤ total (map dual route))
