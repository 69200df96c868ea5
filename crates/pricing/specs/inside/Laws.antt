-- What offers keep of what pricing knows, and what follows when all buckets are done.
use Rattle.std.specs.Prelude.{◌≡◌, ℕ, ℤ, ◌<◌, List, length, Option, None, Some}
use Rattle.tail_book.specs.Seen.{BookSeen}
use Rattle.tail_book.specs.TableSeen.{CostTableSeen}
use Rattle.tail_book.specs.Lookup.{activities, aircraft}
use Rattle.tail_book.specs.CostTable.{IsCostTable, IsTableFor}
use Rattle.tail_book.specs.inside.Sound.{IsBook}
use Rattle.branch_marks.specs.declared.fact.Fact.{Fact}
use Rattle.branch_marks.specs.DeadEnds.{IsStuck}
use Rattle.branch_marks.specs.Families.{IsClosedFamily}
use Rattle.branch_marks.specs.Settled.{AreDuals}
use Rattle.branch_marks.specs.Weights.{IsLeastWeight, IsRouteOfWeight}
use Rattle.label_store.specs.declared.offered.Offered.{Offered}
use Rattle.label_store.specs.Seen.{StoreSeen}
use Rattle.label_store.specs.Store.{IsStore}
use Rattle.label_store.specs.Offers.{Offers}
use Rattle.pricing.specs.declared.end.RouteEnd.{RouteEnd}
use Rattle.pricing.specs.Rows.{weight_of, labels_of, route_to}
use Rattle.pricing.specs.inside.WeightRange.{IsSmall}
use Rattle.pricing.specs.inside.Truth.{place_of, row_of, IsTrueAt, AreTrue, IsKept, IsNext}
use Rattle.pricing.specs.inside.Filled.{AreFilled}
use Rattle.pricing.specs.inside.Ends.{IsLeastEnd}

-- what is offered over a usable link and within the limits leaves each row true
abbrev pub OffersKeepTruth : Type 0
OffersKeepTruth = (table : CostTableSeen) (book : BookSeen) (marks : List Fact) (k : ℕ) (duals : List ℤ) (old new : StoreSeen) (parent : Option ℕ) (b : ℕ)
    (row : List ℤ) (offered : Offered) → IsStore old → IsStore new → AreTrue table book marks k duals old → IsKept old parent
    → IsTrueAt table book marks k duals old parent → IsNext table book marks k duals (place_of old parent) (row_of book k old parent) b row
    → Offers old new b parent row offered → AreTrue table book marks k duals new

-- the carry-in is true, with the empty route, and so is each row that is kept
abbrev pub KeptRowsAreTrue : Type 0
KeptRowsAreTrue = (table : CostTableSeen) (book : BookSeen) (marks : List Fact) (k : ℕ) (duals : List ℤ) (store : StoreSeen) → IsBook book → k < aircraft book
    → AreTrue table book marks k duals store → (row : Option ℕ) → IsKept store row → IsTrueAt table book marks k duals store row

-- a true row weighs no more than 2^61 on either side of 0
abbrev pub TrueRowsAreSmall : Type 0
TrueRowsAreSmall = (table : CostTableSeen) (book : BookSeen) (marks : List Fact) (k : ℕ) (duals : List ℤ) (store : StoreSeen) (row : Option ℕ)
    → IsBook book → IsCostTable table → IsTableFor book table → AreDuals table book duals → IsTrueAt table book marks k duals store row
    → IsSmall (weight_of (row_of book k store row))

-- where all buckets are done their labels are a closed family
abbrev pub FilledStoresAreClosed : Type 0
FilledStoresAreClosed = (table : CostTableSeen) (book : BookSeen) (marks : List Fact) (k : ℕ) (duals : List ℤ) (store : StoreSeen)
    → IsBook book → IsStore store → length store.buckets ≡ activities book → AreTrue table book marks k duals store
    → AreFilled table book marks k duals store (activities book) → IsClosedFamily table book marks k duals (labels_of store)

-- and a least end has the least weight, which the route to it attains
abbrev pub LeastEndsAreLeast : Type 0
LeastEndsAreLeast = (table : CostTableSeen) (book : BookSeen) (marks : List Fact) (k : ℕ) (duals : List ℤ) (store : StoreSeen) (end : RouteEnd)
    → IsBook book → k < aircraft book → IsStore store → length store.buckets ≡ activities book → AreTrue table book marks k duals store
    → IsClosedFamily table book marks k duals (labels_of store) → IsLeastEnd book marks k store (activities book) (Some end)
    → IsLeastWeight table book marks k duals end.value × IsRouteOfWeight table book marks k duals end.value (route_to store end.row)

-- without an end the aircraft is stuck
abbrev pub EndlessStoresStick : Type 0
EndlessStoresStick = (table : CostTableSeen) (book : BookSeen) (marks : List Fact) (k : ℕ) (duals : List ℤ) (store : StoreSeen)
    → IsStore store → length store.buckets ≡ activities book
    → IsClosedFamily table book marks k duals (labels_of store) → IsLeastEnd book marks k store (activities book) None → IsStuck book marks k
