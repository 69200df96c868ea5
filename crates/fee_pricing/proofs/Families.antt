-- The labels of all buckets as one list: what holds of the rows of each bucket holds of each label, and what a bucket covers
-- some label covers. So buckets that are done are a closed family, and a least end among them is least of all.
use Rattle.std.proofs.Common.{◌≡◌, ℕ, zero, suc, ℤ, pos, ◌+ℤ◌, ◌≤ℤ◌, ◌<◌, arith, List, [], ◌∷◌, length, None, Some, sym, ◌∙◌, ap, subst}
use Rattle.std.specs.Prelude.{slice_index_or}
use Rattle.std.specs.List.{Contains, concat}
use Rattle.std.proofs.lemmas.Int.{ints}
use Rattle.std.proofs.lemmas.List.{get_or-map, length-map}
use Rattle.std.proofs.lemmas.List.Elements.{Contains-append_left, Contains-append_right}
use Rattle.tail_book.specs.Seen.{BookSeen}
use Rattle.tail_book.specs.declared.place.Place.{Place}
use Rattle.tail_book.specs.declared.place.Place.TheVariants.{Carry, After}
use Rattle.tail_book.specs.Lookup.{activities, aircraft}
use Rattle.tail_book.specs.inside.Rising.{LinksRise}
use Rattle.tail_book.specs.inside.Sound.{IsBook}
use Rattle.branch_marks.specs.declared.fact.Fact.{Fact}
use Rattle.branch_marks.specs.inside.Fitting.{FitsIsUsableToItsEnd}
use Rattle.branch_marks.specs.DeadEnds.{IsStuck}
use Rattle.branch_marks.specs.Marks.{IsAlive, MayEnd}
use Rattle.branch_marks.specs.Labels.{Label, IsCoveredBy}
use Rattle.branch_marks.specs.Families.{EndsAtLeast}
use Rattle.label_store.specs.Seen.{StoreSeen}
use Rattle.label_store.specs.Buckets.{row_at}
use Rattle.label_store.specs.Store.{IsStore}
use Rattle.label_store.specs.inside.Laws.{IsCoveredAt}
use Rattle.pricing.specs.declared.end.RouteEnd.{RouteEnd}
use Rattle.pricing.specs.Rows.{weight_of, counters_of, label_of, labels_of, route_to}
use Rattle.pricing.specs.inside.Ends.{IsLeastEnd}
use Rattle.pricing.proofs.Families.{each_label, row_at_most, row_of_bucket}
use Rattle.fee_pricing.specs.Arcs.{weight_by, GoesOnBy, IsClosedBy, IsRouteOfWeightBy, WeighsAtLeastBy}
use Rattle.fee_pricing.specs.inside.Truth.{AreTrue}
use Rattle.fee_pricing.specs.inside.Filled.{AreFilled}
use Rattle.fee_pricing.proofs.Truths.{kept_true}

-- what one of the lists has they have together, and what holds of each element of each list holds of each of all
concat_has : (lists : List (List ℕ)) (b j : ℕ) → b < length lists → Contains (slice_index_or lists b []) j → Contains (concat lists) j
concat_has [] b j lt has = absurd (omega (arith, lt))
concat_has (list ∷ rest) zero j lt has = Contains-append_left list (concat rest) j has
concat_has (list ∷ rest) (suc b) j lt has = Contains-append_right list (concat rest) j (concat_has rest b j (omega (arith, lt)) has)

below_itself : (z : ℤ) → ((low : ℤ) → low ≤ℤ z) → ⊥
below_itself z h = let k = h (z +ℤ pos 1) in absurd (omega (arith, ints, k))

module _ (store : StoreSeen) (sound : IsStore store) where
  label_covers : (b : ℕ) (w : ℤ) (values : List ℤ) → b < length store.buckets → IsCoveredAt store b (w ∷ values)
      → IsCoveredBy (labels_of store) (record { at = b; weight = w; counters = values })
  label_covers b w values lt (j, covers) =
      let has = covers.0 in
      let (q, less, is) = concat_has store.buckets b j lt has in
      let light = row_at_most (row_at store.rows j) w values covers.1 in
      let long = length-map (concat store.buckets) (label_of store) in (
        q,
        label_of store j,
        omega (arith, less, long),
        get_or-map (label_of store) (concat store.buckets) q j (label_of store j) less ∙ ap (label_of store) is,
        record { at = (row_of_bucket store sound b j lt has).place; weight = light.0; counters = light.1 },
      )

  module _ (arc : Place → ℕ → ℤ) (book : BookSeen) (marks : List Fact) (k : ℕ) (nodes : length store.buckets ≡ activities book) where
    node_below : (b : ℕ) → b < activities book → b < length store.buckets
    node_below b lt = omega (arith, lt, nodes)

    below_node : (b : ℕ) → b < length store.buckets → b < activities book
    below_node b lt = omega (arith, lt, nodes)

    pub closed : LinksRise → IsBook book → AreTrue arc book marks k store → AreFilled arc book marks k store (activities book)
        → IsClosedBy arc book marks k (labels_of store)
    closed rise sound_book truths filled = record {
      alive = each_label store sound (λ (m : Label). IsAlive book marks k m.at) (λ b lt j has. (truths j (row_of_bucket store sound b j lt has).kept).alive);
      first = λ b lt usable within. label_covers b _ _ (node_below b lt) ((filled b lt).first usable within);
      next = each_label store sound (λ (m : Label). GoesOnBy arc book marks k (labels_of store) (After m.at) m.weight m.counters)
          (λ x below j has. subst (λ (y : ℕ). GoesOnBy arc book marks k (labels_of store) (After y) (weight_of (row_at store.rows j)) (counters_of (row_at store.rows j)))
          (sym (row_of_bucket store sound x j below has).place)
          (λ b lt usable within. label_covers b _ _ (node_below b lt)
          ((filled b lt).next x (rise book sound_book k x b (below_node x below) lt usable.link) usable j has within)));
    }

    -- a closed family bounds every legal route that fits by its lightest end
    abbrev Bounds : Type 0
    Bounds = (family : List Label) (low : ℤ) → IsClosedBy arc book marks k family → EndsAtLeast marks k family low → WeighsAtLeastBy arc book marks k low

    -- without an end it would bound the weight of a route by every number
    pub stuck : Bounds → IsClosedBy arc book marks k (labels_of store) → IsLeastEnd book marks k store (activities book) None → IsStuck book marks k
    stuck bound family none route legal fits = below_itself (weight_by arc route) (λ low. bound (labels_of store) low family (record {
      first = λ may. absurd (none.first may);
      members = each_label store sound (λ (m : Label). MayEnd marks k (After m.at) → low ≤ℤ m.weight) (λ b lt j has may.
          absurd (none.next b (below_node b lt) (subst (λ (a : ℕ). MayEnd marks k (After a)) (row_of_bucket store sound b j lt has).place may) j has));
    }) route legal fits)

    pub least : Bounds → FitsIsUsableToItsEnd → (end : RouteEnd) → IsBook book → k < aircraft book → AreTrue arc book marks k store
        → IsClosedBy arc book marks k (labels_of store) → IsLeastEnd book marks k store (activities book) (Some end)
        → WeighsAtLeastBy arc book marks k end.value × IsRouteOfWeightBy arc book marks k end.value (route_to store end.row)
    least bound fits end sound_book hk truths family best =
        let truth = kept_true arc book marks k store sound_book hk truths end.row best.one.kept in (
          bound (labels_of store) end.value family (record {
            first = best.first;
            members = each_label store sound (λ (m : Label). MayEnd marks k (After m.at) → end.value ≤ℤ m.weight) (λ b lt j has may.
                best.next b (below_node b lt) (subst (λ (a : ℕ). MayEnd marks k (After a)) (row_of_bucket store sound b j lt has).place may) j has);
          }),
          record {
            legal = truth.legal;
            fits = (fits book marks k Carry (route_to store end.row)).1
                (truth.usable, subst (λ (x : Place). MayEnd marks k x) (sym truth.place) best.one.may);
            weighs = sym (ap weight_of truth.values) ∙ best.one.weighs;
          },
        )
