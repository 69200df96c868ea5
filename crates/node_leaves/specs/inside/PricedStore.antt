-- What a priced store shows: its labels are a family of a certificate, and a line spells each of them.
-- For src/node_pricer.rt, src/covers.rt and src/laws.rt.
use Rattle.std.specs.Prelude.{◌≡◌, ◌+◌, ◌<◌, ℕ, ℤ, List, length}
use Rattle.tail_book.specs.Seen.{BookSeen}
use Rattle.tail_book.specs.TableSeen.{CostTableSeen}
use Rattle.tail_book.specs.Lookup.{activities, aircraft}
use Rattle.tail_book.specs.CostTable.{IsCostTable, IsTableFor}
use Rattle.tail_book.specs.inside.Sound.{IsBook}
use Rattle.branch_marks.specs.declared.fact.Fact.{Fact}
use Rattle.branch_marks.specs.DeadEnds.{IsStuck}
use Rattle.branch_marks.specs.Families.{IsClosedFamily, EndsAtLeast, HasNoEnd}
use Rattle.branch_marks.specs.Labels.{Label}
use Rattle.branch_marks.specs.ProofTree.{IsShownCover, IsShownFamily}
use Rattle.branch_marks.specs.Settled.{AreDuals}
use Rattle.branch_marks.specs.Weights.{WeighsAtLeast}
use Rattle.label_store.specs.Seen.{StoreSeen}
use Rattle.label_store.specs.Store.{IsStore}
use Rattle.pricing.specs.Rows.{labels_of, AreSpelled}
use Rattle.node_leaves.specs.inside.EventLists.{AreSpelledLabels}

-- the store is that of a pricing of aircraft k: its labels are a closed family, and each row is what its route comes to
pub record IsPricedStore (table : CostTableSeen) (book : BookSeen) (marks : List Fact) (k : ℕ) (duals : List ℤ) (store : StoreSeen) : Type 0 where
  pub nodes : length store.buckets ≡ activities book
  pub width : store.width ≡ 1 + length book.rules.counters
  pub closed : IsClosedFamily table book marks k duals (labels_of store)
  pub spelled : AreSpelled table book marks k duals store

-- its labels never fall in activity, and have a value for each counter
abbrev pub PricedFamiliesAreShown : Type 0
PricedFamiliesAreShown = (table : CostTableSeen) (book : BookSeen) (marks : List Fact) (k : ℕ) (duals : List ℤ) (store : StoreSeen) → IsStore store
    → IsPricedStore table book marks k duals store → IsShownFamily table book marks k duals (labels_of store)

-- no end among them is lighter than what every route weighs at least
abbrev pub PricedEndsAreLow : Type 0
PricedEndsAreLow = (table : CostTableSeen) (book : BookSeen) (marks : List Fact) (k : ℕ) (duals : List ℤ) (store : StoreSeen) (low : ℤ) → IsStore store
    → IsPricedStore table book marks k duals store → WeighsAtLeast table book marks k duals low → EndsAtLeast marks k (labels_of store) low

-- the family shows each value that no route of aircraft k undercuts
abbrev pub ShowsLowValues : CostTableSeen → BookSeen → List Fact → ℕ → List ℤ → List Label → Type 0
ShowsLowValues table book marks k duals family =
    (low : ℤ) → WeighsAtLeast table book marks k duals low → IsShownCover table book marks k duals (record { value = low; family = family })

-- and there is none where the aircraft is stuck
abbrev pub StuckHaveNoEnd : Type 0
StuckHaveNoEnd = (table : CostTableSeen) (book : BookSeen) (marks : List Fact) (k : ℕ) (duals : List ℤ) (store : StoreSeen) → IsStore store
    → IsPricedStore table book marks k duals store → IsStuck book marks k → HasNoEnd marks k (labels_of store)

-- a line spells each of them
abbrev pub PricedLabelsAreSpelled : Type 0
PricedLabelsAreSpelled = (table : CostTableSeen) (book : BookSeen) → IsBook book → IsCostTable table → IsTableFor book table
    → (marks : List Fact) (k : ℕ) (duals : List ℤ) (store : StoreSeen) → k < aircraft book → AreDuals table book duals → IsStore store
    → IsPricedStore table book marks k duals store → AreSpelledLabels store
