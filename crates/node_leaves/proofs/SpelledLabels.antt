-- A line spells each label of a priced store: its activity is of the book, and its weight and counters are those of a legal
-- route under duals in the box.
use Rattle.std.proofs.Common.{◌≡◌, ℕ, ℤ, pos, ◌<◌, arith, List, [], length, subst, sym, Some}
use Rattle.std.specs.Prelude.{All}
use Rattle.tail_book.specs.Seen.{BookSeen}
use Rattle.tail_book.specs.TableSeen.{CostTableSeen}
use Rattle.tail_book.specs.declared.place.Place.TheVariants.{Carry}
use Rattle.tail_book.specs.Lookup.{aircraft}
use Rattle.tail_book.specs.CostTable.{IsCostTable, IsTableFor}
use Rattle.tail_book.specs.inside.Rising.{LegalRoutesRise}
use Rattle.tail_book.specs.inside.RouteBounds.{ReducedCostsAreSmall}
use Rattle.tail_book.specs.inside.Sound.{IsBook}
use Rattle.turn_rules.specs.inside.FreeBefore.{LinksLeaveTime}
use Rattle.branch_marks.specs.declared.fact.Fact.{Fact}
use Rattle.branch_marks.specs.Events.{IsLineValue, IsLineCounter}
use Rattle.branch_marks.specs.Settled.{AreDuals}
use Rattle.branch_marks.specs.Weights.{dual}
use Rattle.label_store.specs.Seen.{StoreSeen}
use Rattle.label_store.specs.Buckets.{row_at}
use Rattle.label_store.specs.Store.{IsStore}
use Rattle.pricing.specs.Rows.{weight_of, counters_of, route_to}
use Rattle.node_leaves.specs.inside.EventLists.{AreSpelledLabels}
use Rattle.node_leaves.specs.inside.PricedStore.{IsPricedStore}
use Rattle.node_leaves.proofs.Countings.{counters_spelled}
use Rattle.node_leaves.proofs.PricedLabels.{counters_length}

module _ (table : CostTableSeen) (book : BookSeen) (sound : IsBook book) (costs : IsCostTable table) (for_book : IsTableFor book table)
    (rise : LegalRoutesRise) (small : ReducedCostsAreSmall) (time : LinksLeaveTime) where
  pub labels_spelled : (marks : List Fact) (k : ℕ) (duals : List ℤ) (store : StoreSeen) → k < aircraft book → AreDuals table book duals → IsStore store
      → IsPricedStore table book marks k duals store → AreSpelledLabels store
  labels_spelled marks k duals store less in_box is priced = λ j kept.
      let spelled = priced.spelled j kept in
      let row = row_at store.rows j in
      let placed = is.placed j 0 (omega (arith, kept, is.each_node)) in
      let few = sound.few_activities in
      let few_counters = sound.rules.few_counters in
      let count = counters_length row (length book.rules.counters) (subst (λ (n : ℕ). length row ≡ n) priced.width (is.wide j [] kept)) in
      let route = route_to store (Some j) in
      record {
        activity = omega (arith, placed, priced.nodes, few);
        value = subst (λ (r : List ℤ). IsLineValue (weight_of r)) (sym spelled.values)
            (small table book costs for_book (dual duals) (λ a lt. in_box.box a (pos 0) (omega (arith, lt, in_box.one_each))) k Carry route (rise book sound k route spelled.legal));
        count = omega (arith, count, few_counters);
        each = subst (λ (r : List ℤ). All IsLineCounter (counters_of r)) (sym spelled.values) (counters_spelled book sound time k route less spelled.legal);
      }
