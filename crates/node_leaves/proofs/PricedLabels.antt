-- The labels of a priced store. A label is a row of a bucket, whose node is the bucket's number: so the labels of all buckets
-- never fall in activity. Its route is legal and usable, and ends at the node: so where the aircraft may end there, the route
-- fits, and weighs what every route weighs at least.
use Rattle.std.proofs.Common.{◌≡◌, ◌∙◌, ℕ, suc, ℤ, ◌+◌, ◌<◌, ◌≤◌, ◌≤ℤ◌, arith, sym, subst, List, [], ◌∷◌, ◌++◌, length, map, Some}
use Rattle.std.specs.Prelude.{All, AllPairs, slice_index_or}
use Rattle.std.specs.List.{concat}
use Rattle.std.proofs.lemmas.List.Elements.{All-append, All-map, All-contains, All-contains_itself}
use Rattle.std.proofs.lemmas.List.Kept.{AllPairs-cons}
use Rattle.tail_book.specs.Seen.{BookSeen}
use Rattle.tail_book.specs.TableSeen.{CostTableSeen}
use Rattle.tail_book.specs.declared.place.Place.{Place}
use Rattle.tail_book.specs.declared.place.Place.TheVariants.{Carry, After}
use Rattle.tail_book.specs.inside.OneMore.{PlaceWithOneMore}
use Rattle.tail_book.specs.inside.Route.{place_after}
use Rattle.branch_marks.specs.declared.fact.Fact.{Fact}
use Rattle.branch_marks.specs.inside.Fitting.{FitsIsUsableToItsEnd}
use Rattle.branch_marks.specs.DeadEnds.{IsStuck}
use Rattle.branch_marks.specs.Families.{EndsAtLeast, HasNoEnd}
use Rattle.branch_marks.specs.Labels.{Label}
use Rattle.branch_marks.specs.Marks.{MayEnd, Fits}
use Rattle.branch_marks.specs.ProofTree.{IsShownFamily}
use Rattle.branch_marks.specs.Weights.{weight, WeighsAtLeast}
use Rattle.label_store.specs.Seen.{StoreSeen}
use Rattle.label_store.specs.Buckets.{row_at}
use Rattle.label_store.specs.Store.{node_of, parent_of, bucket_of, IsStore, IsRowOf}
use Rattle.pricing.specs.Rows.{weight_of, counters_of, label_of, labels_of, route_to, route_within}
use Rattle.pricing.proofs.Families.{concat_all}
use Rattle.node_leaves.specs.inside.PricedStore.{IsPricedStore}

-- numbers that come in buckets, the nodes of each bucket larger than those of the bucket before it
module _ (label_at : ℕ → Label) where
  abbrev NotAbove : Label → Label → Type 0
  NotAbove label other = label.at ≤ other.at

  abbrev IsAt : ℕ → ℕ → Type 0
  IsAt n j = (label_at j).at ≡ n

  abbrev IsFrom : ℕ → ℕ → Type 0
  IsFrom n j = n ≤ (label_at j).at

  from_bucket : (n : ℕ) (buckets : List (List ℕ)) → ((b : ℕ) → b < length buckets → All (IsAt (n + b)) (slice_index_or buckets b [])) → All (IsFrom n) (concat buckets)
  from_bucket n buckets each = concat_all (IsFrom n) buckets (λ b lt i d less. let at = each b lt i d less in omega (arith, at))

  in_bucket : (n : ℕ) (bucket rest : List ℕ) → All (IsAt n) bucket → All (IsFrom n) rest → AllPairs NotAbove (map label_at rest)
      → AllPairs NotAbove (map label_at (bucket ++ rest))
  in_bucket n [] rest at from pairs = pairs
  in_bucket n (j ∷ bucket) rest at from pairs =
      let here : (label_at j).at ≡ n = at 0 j (omega arith) in
      let later : All (IsAt n) bucket = λ i d less. at (suc i) d (omega (arith, less)) in
      let behind : All (IsFrom n) (bucket ++ rest) = All-append (IsFrom n) bucket rest (λ i d less. let is = later i d less in omega (arith, is)) from in
      AllPairs-cons NotAbove (label_at j) (map label_at (bucket ++ rest))
      (All-map (NotAbove (label_at j)) label_at (bucket ++ rest) (λ i d less. let below = behind i d less in omega (arith, here, below)))
      (in_bucket n bucket rest later from pairs)

  pub in_order : (n : ℕ) (buckets : List (List ℕ)) → ((b : ℕ) → b < length buckets → All (IsAt (n + b)) (slice_index_or buckets b []))
      → AllPairs NotAbove (map label_at (concat buckets))
  in_order n [] each = λ i j d less below. absurd (omega (arith, below))
  in_order n (bucket ∷ buckets) each =
      let later : (b : ℕ) → b < length buckets → All (IsAt (suc n + b)) (slice_index_or buckets b []) =
      λ b lt i d less. let at = each (suc b) (omega (arith, lt)) i d less in omega (arith, at) in
      let above = from_bucket (suc n) buckets later in
      in_bucket n bucket (concat buckets) (λ i d less. let at = each 0 (omega arith) i d less in omega (arith, at))
      (λ i d less. let above_it = above i d less in omega (arith, above_it)) (in_order (suc n) buckets later)

pub counters_length : (row : List ℤ) (n : ℕ) → length row ≡ 1 + n → length (counters_of row) ≡ n
counters_length [] n is = absurd (omega (arith, is))
counters_length (w ∷ values) n is = omega (arith, is)

module _ (store : StoreSeen) (sound : IsStore store) where
  pub each_label : (P : Label → Type 0) → ((j : ℕ) → j < length store.rows → P (label_of store j)) → All P (labels_of store)
  each_label P each = All-map P (label_of store) (concat store.buckets)
      (concat_all (λ (j : ℕ). P (label_of store j)) store.buckets
      (λ b lt i d less. each (slice_index_or (bucket_of store b) i d)
      (All-contains (IsRowOf store b) (bucket_of store b) (slice_index_or (bucket_of store b) i d) (sound.numbers b lt) (All-contains_itself (bucket_of store b) i d less)).kept))

  pub labels_in_order : AllPairs (λ (label other : Label). label.at ≤ other.at) (labels_of store)
  labels_in_order = in_order (label_of store) 0 store.buckets (λ b lt i d less.
      let is = (All-contains (IsRowOf store b) (bucket_of store b) (slice_index_or (bucket_of store b) i d) (sound.numbers b lt) (All-contains_itself (bucket_of store b) i d less)).place in
      omega (arith, is))

  module _ (table : CostTableSeen) (book : BookSeen) (marks : List Fact) (k : ℕ) (duals : List ℤ) (priced : IsPricedStore table book marks k duals store) where
    pub shown_family : IsShownFamily table book marks k duals (labels_of store)
    shown_family = record {
      closed = priced.closed;
      ordered = labels_in_order;
      counted = each_label (λ (label : Label). length label.counters ≡ length book.rules.counters) (λ j less.
          counters_length (row_at store.rows j) (length book.rules.counters) (sound.wide j [] less ∙ priced.width));
    }

    module _ (ends : FitsIsUsableToItsEnd) (place : PlaceWithOneMore) where
      end_of_route : (j : ℕ) → place_after Carry (route_to store (Some j)) ≡ After (node_of store j)
      unfolding route_within
      end_of_route j = place Carry (route_within j store (parent_of store j)) (node_of store j)

      route_fits : (j : ℕ) → j < length store.rows → MayEnd marks k (After (node_of store j)) → Fits book marks k (route_to store (Some j))
      route_fits j less may =
          (ends book marks k Carry (route_to store (Some j))).1
          ((priced.spelled j less).usable, subst (λ (x : Place). MayEnd marks k x) (sym (end_of_route j)) may)

      pub low_ends : (low : ℤ) → WeighsAtLeast table book marks k duals low → EndsAtLeast marks k (labels_of store) low
      low_ends low least = record {
        first = λ may. least [] tt may;
        members = each_label (λ (label : Label). MayEnd marks k (After label.at) → low ≤ℤ label.weight) (λ j less may.
            let spelled = priced.spelled j less in
            let route = route_to store (Some j) in
            subst (λ (row : List ℤ). low ≤ℤ weight_of row) (sym spelled.values) (least route spelled.legal (route_fits j less may)));
      }

      pub no_ends : IsStuck book marks k → HasNoEnd marks k (labels_of store)
      no_ends stuck = record {
        first = λ may. stuck [] tt may;
        members = each_label (λ (label : Label). ¬ MayEnd marks k (After label.at)) (λ j less may.
            stuck (route_to store (Some j)) (priced.spelled j less).legal (route_fits j less may));
      }
