-- What a search knows of rests of routes, and of the rows that are left.
use Rattle.std.specs.Prelude.{◌≡◌, ℕ, ℤ, pos, ◌+ℤ◌, ◌-ℤ◌, ◌≤ℤ◌, ◌^◌, ◌<◌, ◌⊎◌, List, length, Option, None, Some}
use Rattle.tail_book.specs.Seen.{BookSeen}
use Rattle.tail_book.specs.TableSeen.{CostTableSeen}
use Rattle.tail_book.specs.declared.place.Place.{Place}
use Rattle.tail_book.specs.Lookup.{activities, aircraft}
use Rattle.tail_book.specs.CostTable.{IsCostTable, IsTableFor}
use Rattle.tail_book.specs.inside.Sound.{IsBook}
use Rattle.branch_marks.specs.declared.fact.Fact.{Fact}
use Rattle.branch_marks.specs.Marks.{FitsFrom}
use Rattle.branch_marks.specs.Settled.{AreDuals}
use Rattle.branch_marks.specs.Weights.{weight_from, WeighsAtLeast, IsLeastWeight, IsRouteOfWeight}
use Rattle.label_store.specs.Seen.{StoreSeen}
use Rattle.label_store.specs.Store.{IsStore}
use Rattle.pricing.specs.declared.end.RouteEnd.{RouteEnd}
use Rattle.pricing.specs.Rows.{route_to}
use Rattle.pricing.specs.inside.WeightRange.{IsBroad, IsSmall}
use Rattle.pricing.specs.inside.Truth.{AreTrue}
use Rattle.route_search.specs.declared.end.Ends.{Ends}
use Rattle.route_search.specs.declared.least_within.LeastWithin.{LeastWithin}
use Rattle.route_search.specs.LeastWithin.{IsFoundWithin}
use Rattle.route_search.specs.inside.Ends.{AreEnds}
use Rattle.route_search.specs.inside.Reach.{AreDone}

-- a rest of a route that fits weighs no more than 2^61 on either side of 0
abbrev pub FittingRestsAreSmall : Type 0
FittingRestsAreSmall = (table : CostTableSeen) (book : BookSeen) (marks : List Fact) (k : ℕ) (duals : List ℤ) (x : Place) (rest : List ℕ)
    → IsBook book → IsCostTable table → IsTableFor book table → AreDuals table book duals → FitsFrom book marks k x rest
    → IsSmall (weight_from table book k duals x rest)

-- where all buckets are done as far as the limit, the best end has the least weight, which the route to it attains; and where
-- there is none, each legal route that fits weighs more than the cut
abbrev pub BestOrNoneWithin : CostTableSeen → BookSeen → List Fact → ℕ → List ℤ → StoreSeen → ℤ → Option RouteEnd → Type 0
BestOrNoneWithin table book marks k duals store cut None = WeighsAtLeast table book marks k duals (cut +ℤ pos 1)
BestOrNoneWithin table book marks k duals store cut (Some end) =
    IsLeastWeight table book marks k duals end.value × IsRouteOfWeight table book marks k duals end.value (route_to store end.row) × (end.value ≤ℤ cut)

abbrev pub DoneBucketsAreExact : Type 0
DoneBucketsAreExact = (table : CostTableSeen) (book : BookSeen) (marks : List Fact) (k : ℕ) (duals : List ℤ) (store : StoreSeen) (cut : ℤ) (ends : Ends)
    → IsBook book → k < aircraft book → IsStore store → length store.buckets ≡ activities book → AreTrue table book marks k duals store
    → AreDone table book marks k duals ends.limit store (activities book) → AreEnds book marks k store cut (activities book) ends
    → BestOrNoneWithin table book marks k duals store cut ends.best

-- the number, or the nearer end of what lies within 2^62 of 0
pub record IsClamped (cut clamped : ℤ) : Type 0 where
  pub broad : IsBroad clamped
  pub no_less : (cut ≤ℤ clamped) ⊎ (clamped ≡ pos (2 ^ 62))
  pub no_more : (clamped ≤ℤ cut) ⊎ (clamped ≡ (pos 0 -ℤ pos (2 ^ 62)))

-- no weight is so large that a clamped cut would find another answer
abbrev pub ClampedCutsFindTheSame : Type 0
ClampedCutsFindTheSame = (table : CostTableSeen) (book : BookSeen) (marks : List Fact) (k : ℕ) (duals : List ℤ) (cut clamped : ℤ) (found : LeastWithin)
    → IsBook book → IsCostTable table → IsTableFor book table → AreDuals table book duals → IsClamped cut clamped
    → IsFoundWithin table book marks k duals clamped found → IsFoundWithin table book marks k duals cut found
