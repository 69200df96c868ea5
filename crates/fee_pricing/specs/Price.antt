-- What pricing an aircraft with fees answers, and what it leaves: the least weight with fees and a route that has it, or that the
-- aircraft is stuck; and labels that are a closed family. For src/fee_pricer.rt.
use Rattle.std.specs.Prelude.{◌≡◌, ℕ, ℤ, ◌<◌, List, ◌∷◌, length, Some}
use Rattle.tail_book.specs.Seen.{BookSeen}
use Rattle.tail_book.specs.TableSeen.{CostTableSeen}
use Rattle.tail_book.specs.declared.place.Place.TheVariants.{Carry}
use Rattle.tail_book.specs.Route.{IsLegalRoute}
use Rattle.tail_book.specs.inside.Route.{counters_after}
use Rattle.branch_marks.specs.declared.fact.Fact.{Fact}
use Rattle.branch_marks.specs.DeadEnds.{IsStuck}
use Rattle.branch_marks.specs.inside.Fitting.{IsUsableFrom}
use Rattle.label_store.specs.Seen.{StoreSeen}
use Rattle.label_store.specs.Buckets.{row_at}
use Rattle.pricing.specs.declared.priced.Priced.{Priced}
use Rattle.pricing.specs.declared.priced.Priced.TheVariants.{Best, Stuck}
use Rattle.pricing.specs.Rows.{labels_of, route_to}
use Rattle.quota_rows.specs.declared.quota.Quota.{Quota}
use Rattle.quota_rows.specs.FeeWeights.{fee_arc, fee_weight, IsLeastFeeWeight, IsRouteOfFeeWeight}
use Rattle.fee_pricing.specs.Arcs.{IsClosedBy}

-- the value is the least weight of aircraft k with fees, and the route has it; or no legal route of aircraft k fits the marks
abbrev pub IsFeePriceOf : CostTableSeen → BookSeen → List Quota → List Fact → ℕ → List ℤ → List ℤ → Priced → Type 0
IsFeePriceOf table book quotas marks k duals fees (Best value route) =
    IsLeastFeeWeight table book quotas marks k duals fees value × IsRouteOfFeeWeight table book quotas marks k duals fees value route
IsFeePriceOf table book quotas marks k duals fees Stuck = IsStuck book marks k

-- the labels of the buckets are a closed family for aircraft k where a connection also adds the fees of the quotas that it belongs to
abbrev pub AreClosedWithFees : CostTableSeen → BookSeen → List Quota → List Fact → ℕ → List ℤ → List ℤ → StoreSeen → Type 0
AreClosedWithFees table book quotas marks k duals fees store = IsClosedBy (fee_arc table book quotas k duals fees) book marks k (labels_of store)

-- the route that the parents of row j spell is legal and goes over usable links, and its weight with fees and its counters are the row
pub record IsSpelledWithFees (table : CostTableSeen) (book : BookSeen) (quotas : List Quota) (marks : List Fact) (k : ℕ) (duals fees : List ℤ)
    (store : StoreSeen) (j : ℕ) : Type 0 where
  pub legal : IsLegalRoute book k (route_to store (Some j))
  pub usable : IsUsableFrom book marks k Carry (route_to store (Some j))
  pub values : row_at store.rows j
      ≡ fee_weight table book quotas k duals fees (route_to store (Some j)) ∷ counters_after book k (route_to store (Some j))

-- and so has each kept row
abbrev pub AreSpelledWithFees : CostTableSeen → BookSeen → List Quota → List Fact → ℕ → List ℤ → List ℤ → StoreSeen → Type 0
AreSpelledWithFees table book quotas marks k duals fees store =
    (j : ℕ) → j < length store.rows → IsSpelledWithFees table book quotas marks k duals fees store j
