-- What offers keep of what pricing with fees knows, and what follows when all buckets are done, whatever a link adds to a weight;
-- and what it adds with fees. For src/laws.rt.
use Rattle.std.specs.Prelude.{◌≡◌, ℕ, ℤ, ◌<◌, ◌≤◌, List, All, length, Option, None, Some}
use Rattle.tail_book.specs.Seen.{BookSeen}
use Rattle.tail_book.specs.TableSeen.{CostTableSeen}
use Rattle.tail_book.specs.declared.place.Place.{Place}
use Rattle.tail_book.specs.Lookup.{activities, aircraft}
use Rattle.tail_book.specs.CostTable.{IsCostTable, costs_of}
use Rattle.tail_book.specs.inside.Sound.{IsBook}
use Rattle.branch_marks.specs.declared.fact.Fact.{Fact}
use Rattle.branch_marks.specs.DeadEnds.{IsStuck}
use Rattle.branch_marks.specs.Settled.{AreDuals}
use Rattle.label_store.specs.declared.offered.Offered.{Offered}
use Rattle.label_store.specs.Seen.{StoreSeen}
use Rattle.label_store.specs.Store.{IsStore}
use Rattle.label_store.specs.Offers.{Offers}
use Rattle.pricing.specs.declared.end.RouteEnd.{RouteEnd}
use Rattle.pricing.specs.Rows.{weight_of, labels_of, route_to}
use Rattle.pricing.specs.inside.WeightRange.{IsSmall}
use Rattle.pricing.specs.inside.Truth.{place_of, row_of, IsKept}
use Rattle.pricing.specs.inside.Ends.{IsLeastEnd}
use Rattle.quota_rows.specs.declared.quota.Quota.{Quota}
use Rattle.quota_rows.specs.declared.quota.TheConstants.{QUOTA_LIMIT}
use Rattle.quota_rows.specs.Fees.{AreFees}
use Rattle.quota_rows.specs.FeeWeights.{fee_arc, fee_weight}
use Rattle.fee_pricing.specs.Arcs.{weight_by, WeighsAtLeastBy, IsRouteOfWeightBy, IsClosedBy}
use Rattle.fee_pricing.specs.inside.Fair.{AreFair, IsFairFee}
use Rattle.fee_pricing.specs.inside.Truth.{IsTrueAt, AreTrue, IsNext}
use Rattle.fee_pricing.specs.inside.Filled.{AreFilled}

-- what is offered over a usable link and within the limits leaves each row true
abbrev pub OffersKeepTruth : Type 0
OffersKeepTruth = (arc : Place → ℕ → ℤ) (book : BookSeen) (marks : List Fact) (k : ℕ) (old new : StoreSeen) (parent : Option ℕ) (b : ℕ)
    (row : List ℤ) (offered : Offered) → IsStore old → IsStore new → AreTrue arc book marks k old → IsKept old parent
    → IsTrueAt arc book marks k old parent → IsNext arc book marks k (place_of old parent) (row_of book k old parent) b row
    → Offers old new b parent row offered → AreTrue arc book marks k new

-- the carry-in is true, with the empty route, and so is each row that is kept
abbrev pub KeptRowsAreTrue : Type 0
KeptRowsAreTrue = (arc : Place → ℕ → ℤ) (book : BookSeen) (marks : List Fact) (k : ℕ) (store : StoreSeen) → IsBook book → k < aircraft book
    → AreTrue arc book marks k store → (row : Option ℕ) → IsKept store row → IsTrueAt arc book marks k store row

-- where no link adds much, a true row weighs no more than 2^61 on either side of 0
abbrev pub TrueRowsAreSmall : Type 0
TrueRowsAreSmall = (arc : Place → ℕ → ℤ) (book : BookSeen) (marks : List Fact) (k : ℕ) (store : StoreSeen) (row : Option ℕ)
    → IsBook book → AreFair arc (activities book) → IsTrueAt arc book marks k store row → IsSmall (weight_of (row_of book k store row))

-- where all buckets are done their labels are a closed family
abbrev pub FilledStoresAreClosed : Type 0
FilledStoresAreClosed = (arc : Place → ℕ → ℤ) (book : BookSeen) (marks : List Fact) (k : ℕ) (store : StoreSeen)
    → IsBook book → IsStore store → length store.buckets ≡ activities book → AreTrue arc book marks k store
    → AreFilled arc book marks k store (activities book) → IsClosedBy arc book marks k (labels_of store)

-- and no legal route that fits weighs less than a least end, which the route to it attains
abbrev pub LeastEndsAreLeast : Type 0
LeastEndsAreLeast = (arc : Place → ℕ → ℤ) (book : BookSeen) (marks : List Fact) (k : ℕ) (store : StoreSeen) (end : RouteEnd)
    → IsBook book → k < aircraft book → IsStore store → length store.buckets ≡ activities book → AreTrue arc book marks k store
    → IsClosedBy arc book marks k (labels_of store) → IsLeastEnd book marks k store (activities book) (Some end)
    → WeighsAtLeastBy arc book marks k end.value × IsRouteOfWeightBy arc book marks k end.value (route_to store end.row)

-- without an end the aircraft is stuck
abbrev pub EndlessStoresStick : Type 0
EndlessStoresStick = (arc : Place → ℕ → ℤ) (book : BookSeen) (marks : List Fact) (k : ℕ) (store : StoreSeen)
    → IsStore store → length store.buckets ≡ activities book
    → IsClosedBy arc book marks k (labels_of store) → IsLeastEnd book marks k store (activities book) None → IsStuck book marks k

-- by the book's own costs fees in their box are fair
abbrev pub FeesAreFair : Type 0
FeesAreFair = (table : CostTableSeen) (book : BookSeen) (quotas : List Quota) (fees : List ℤ) → IsBook book → table ≡ costs_of book
    → AreFees table quotas fees → All IsFairFee fees

-- and with duals in their box and at most fifty quotas no link adds much with fees
abbrev pub FeeArcsAreFair : Type 0
FeeArcsAreFair = (table : CostTableSeen) (book : BookSeen) (quotas : List Quota) (k : ℕ) (duals fees : List ℤ) → IsBook book → IsCostTable table
    → table ≡ costs_of book → AreDuals table book duals → length quotas ≤ QUOTA_LIMIT → AreFees table quotas fees
    → AreFair (fee_arc table book quotas k duals fees) (activities book)

-- a route weighs with fees what its links add
abbrev pub FeeWeightIsByArcs : Type 0
FeeWeightIsByArcs = (table : CostTableSeen) (book : BookSeen) (quotas : List Quota) (k : ℕ) (duals fees : List ℤ) (route : List ℕ)
    → fee_weight table book quotas k duals fees route ≡ weight_by (fee_arc table book quotas k duals fees) route
