-- The labels of all buckets as one list: what holds of the rows of each bucket holds of each label, and what a bucket covers
-- some label covers. So buckets that are done are a closed family, and a least end among them is least of all.
use Rattle.std.proofs.Common.{◌≡◌, ℕ, zero, suc, ℤ, ◌≤ℤ◌, ◌<◌, arith, List, [], ◌∷◌, length, None, Some, sym, ◌∙◌, ap, subst}
use Rattle.std.specs.Prelude.{All, slice_index_or}
use Rattle.std.specs.List.{Contains, concat}
use Rattle.std.proofs.lemmas.List.{get_or-map, length-map}
use Rattle.std.proofs.lemmas.List.Elements.{All-nil, All-append, All-map, All-contains, All-contains_itself, Contains-append_left, Contains-append_right}
use Rattle.tail_book.specs.Seen.{BookSeen}
use Rattle.tail_book.specs.TableSeen.{CostTableSeen}
use Rattle.tail_book.specs.declared.place.Place.{Place}
use Rattle.tail_book.specs.declared.place.Place.TheVariants.{Carry, After}
use Rattle.tail_book.specs.Lookup.{activities, aircraft}
use Rattle.tail_book.specs.CounterOrder.{EachAtMost}
use Rattle.tail_book.specs.inside.Rising.{LinksRise}
use Rattle.tail_book.specs.inside.Sound.{IsBook}
use Rattle.branch_marks.specs.declared.fact.Fact.{Fact}
use Rattle.branch_marks.specs.inside.Fitting.{FitsIsUsableToItsEnd}
use Rattle.branch_marks.specs.DeadEnds.{IsStuck}
use Rattle.branch_marks.specs.Marks.{IsAlive, MayEnd}
use Rattle.branch_marks.specs.Labels.{Label, IsCoveredBy}
use Rattle.branch_marks.specs.Families.{GoesOn, IsClosedFamily, ClosedFamiliesBound, EndlessFamiliesStick}
use Rattle.branch_marks.specs.Weights.{IsLeastWeight, IsRouteOfWeight}
use Rattle.label_store.specs.Seen.{StoreSeen}
use Rattle.label_store.specs.Buckets.{row_at}
use Rattle.label_store.specs.Store.{bucket_of, IsStore, IsRowOf}
use Rattle.label_store.specs.inside.Laws.{IsCoveredAt}
use Rattle.pricing.specs.declared.end.RouteEnd.{RouteEnd}
use Rattle.pricing.specs.Rows.{weight_of, counters_of, label_of, labels_of, route_to}
use Rattle.pricing.specs.inside.Truth.{AreTrue}
use Rattle.pricing.specs.inside.Filled.{AreFilled}
use Rattle.pricing.specs.inside.Ends.{IsLeastEnd}
use Rattle.pricing.proofs.Truths.{kept_true}

-- what one of the lists has they have together, and what holds of each element of each list holds of each of all
concat_has : (lists : List (List ℕ)) (b j : ℕ) → b < length lists → Contains (slice_index_or lists b []) j → Contains (concat lists) j
concat_has [] b j lt has = absurd (omega (arith, lt))
concat_has (list ∷ rest) zero j lt has = Contains-append_left list (concat rest) j has
concat_has (list ∷ rest) (suc b) j lt has = Contains-append_right list (concat rest) j (concat_has rest b j (omega (arith, lt)) has)

pub concat_all : (P : ℕ → Type 0) (lists : List (List ℕ)) → ((b : ℕ) → b < length lists → All P (slice_index_or lists b [])) → All P (concat lists)
concat_all P [] each = All-nil P
concat_all P (list ∷ rest) each =
    All-append P list (concat rest) (each 0 (omega arith)) (concat_all P rest (λ b lt. each (suc b) (omega (arith, lt))))

-- a row at most another one weighs no more, and no counter of it is larger
pub row_at_most : (row : List ℤ) (w : ℤ) (values : List ℤ) → EachAtMost row (w ∷ values) → (weight_of row ≤ℤ w) × EachAtMost (counters_of row) values
row_at_most [] w values most = absurd most
row_at_most (v ∷ others) w values most = (most.0, most.1)

module _ (store : StoreSeen) (sound : IsStore store) where
  -- a row of a bucket is kept, and has its node
  pub row_of_bucket : (b j : ℕ) → b < length store.buckets → Contains (bucket_of store b) j → IsRowOf store b j
  row_of_bucket b j lt has = All-contains (IsRowOf store b) (bucket_of store b) j (sound.numbers b lt) has

  pub each_label : (P : Label → Type 0) → ((b : ℕ) → b < length store.buckets → (j : ℕ) → Contains (bucket_of store b) j → P (label_of store j)) → All P (labels_of store)
  each_label P each = All-map P (label_of store) (concat store.buckets) (concat_all (λ (j : ℕ). P (label_of store j)) store.buckets
      (λ b lt i d less. each b lt (slice_index_or (bucket_of store b) i d) (All-contains_itself (bucket_of store b) i d less)))

  label_covers : (b : ℕ) (w : ℤ) (values : List ℤ) → b < length store.buckets → IsCoveredAt store b (w ∷ values)
      → IsCoveredBy (labels_of store) (record { at = b; weight = w; counters = values })
  label_covers b w values lt (j, covers) =
      let has = covers.0 in
      let (q, less, is) = concat_has store.buckets b j lt has in
      let light = row_at_most (row_at store.rows j) w values covers.1 in
      let long = length-map (concat store.buckets) (label_of store) in (
        q,
        label_of store j,
        omega (arith, less, long),
        get_or-map (label_of store) (concat store.buckets) q j (label_of store j) less ∙ ap (label_of store) is,
        record { at = (row_of_bucket b j lt has).place; weight = light.0; counters = light.1 },
      )

  module _ (table : CostTableSeen) (book : BookSeen) (marks : List Fact) (k : ℕ) (duals : List ℤ) (nodes : length store.buckets ≡ activities book) where
    node_below : (b : ℕ) → b < activities book → b < length store.buckets
    node_below b lt = omega (arith, lt, nodes)

    below_node : (b : ℕ) → b < length store.buckets → b < activities book
    below_node b lt = omega (arith, lt, nodes)

    pub closed : LinksRise → IsBook book → AreTrue table book marks k duals store → AreFilled table book marks k duals store (activities book)
        → IsClosedFamily table book marks k duals (labels_of store)
    closed rise sound_book truths filled = record {
      alive = each_label (λ (m : Label). IsAlive book marks k m.at) (λ b lt j has. (truths j (row_of_bucket b j lt has).kept).alive);
      first = λ b lt usable within. label_covers b _ _ (node_below b lt) ((filled b lt).first usable within);
      next = each_label (λ (m : Label). GoesOn table book marks k duals (labels_of store) (After m.at) m.weight m.counters)
          (λ x below j has. subst (λ (y : ℕ). GoesOn table book marks k duals (labels_of store) (After y) (weight_of (row_at store.rows j)) (counters_of (row_at store.rows j)))
          (sym (row_of_bucket x j below has).place)
          (λ b lt usable within. label_covers b _ _ (node_below b lt)
          ((filled b lt).next x (rise book sound_book k x b (below_node x below) lt usable.link) usable j has within)));
    }

    pub stuck : EndlessFamiliesStick → IsClosedFamily table book marks k duals (labels_of store) → IsLeastEnd book marks k store (activities book) None → IsStuck book marks k
    stuck endless family none = endless table book marks k duals (labels_of store) family (record {
      first = none.first;
      members = each_label (λ (m : Label). ¬ MayEnd marks k (After m.at)) (λ b lt j has may.
          none.next b (below_node b lt) (subst (λ (a : ℕ). MayEnd marks k (After a)) (row_of_bucket b j lt has).place may) j has);
    })

    pub least : ClosedFamiliesBound → FitsIsUsableToItsEnd → (end : RouteEnd) → IsBook book → k < aircraft book → AreTrue table book marks k duals store
        → IsClosedFamily table book marks k duals (labels_of store) → IsLeastEnd book marks k store (activities book) (Some end)
        → IsLeastWeight table book marks k duals end.value × IsRouteOfWeight table book marks k duals end.value (route_to store end.row)
    least bound fits end sound_book hk truths family best =
        let truth = kept_true table book marks k duals store sound_book hk truths end.row best.one.kept in
        let route = route_to store end.row in
        let attains : IsRouteOfWeight table book marks k duals end.value route = record {
          legal = truth.legal;
          fits = (fits book marks k Carry route).1 (truth.usable, subst (λ (x : Place). MayEnd marks k x) (sym truth.place) best.one.may);
          weighs = sym (ap weight_of truth.values) ∙ best.one.weighs;
        } in (
          record {
            least = bound table book marks k duals (labels_of store) end.value family (record {
              first = best.first;
              members = each_label (λ (m : Label). MayEnd marks k (After m.at) → end.value ≤ℤ m.weight) (λ b lt j has may.
                  best.next b (below_node b lt) (subst (λ (a : ℕ). MayEnd marks k (After a)) (row_of_bucket b j lt has).place may) j has);
            });
            attained = (route, attains);
          },
          attains,
        )
