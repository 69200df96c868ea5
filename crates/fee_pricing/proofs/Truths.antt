-- Each row is true: it stays so while rows come, and a row that is offered over a usable link and within the limits is true
-- as it enters, since the route to it is that to its parent with one activity more. The carry-in is true by itself: its
-- counters are those that the book says.
use Rattle.std.proofs.Common.{◌≡◌, ℕ, ℤ, ◌<◌, ◌+◌, inl, inr, arith, List, [], ◌∷◌, ◌++◌, length, Option, None, Some, refl, sym, ◌∙◌, ap, subst}
use Rattle.std.proofs.lemmas.Bool.{cases_lt}
use Rattle.std.proofs.lemmas.Int.{ints}
use Rattle.std.proofs.lemmas.List.{length-append}
use Rattle.tail_book.specs.Seen.{BookSeen}
use Rattle.tail_book.specs.declared.place.Place.{Place}
use Rattle.tail_book.specs.declared.place.Place.TheVariants.{Carry, After}
use Rattle.tail_book.specs.Lookup.{aircraft, carry_of, no_tail}
use Rattle.tail_book.specs.Counters.{step}
use Rattle.tail_book.specs.inside.OneMore.{end_place, LegalWithOneMore, CountersWithOneMore, PlaceWithOneMore}
use Rattle.tail_book.specs.inside.Route.{counters_after}
use Rattle.tail_book.specs.inside.Sound.{IsBook}
use Rattle.maint_counters.specs.inside.Counts.{AreCounts}
use Rattle.branch_marks.specs.declared.fact.Fact.{Fact}
use Rattle.branch_marks.specs.inside.Fitting.{UsableWithOneMore}
use Rattle.label_store.specs.declared.offered.Offered.TheVariants.{Kept, Covered}
use Rattle.label_store.specs.Seen.{StoreSeen}
use Rattle.label_store.specs.Store.{node_of, IsStore}
use Rattle.label_store.specs.inside.Laws.{KeepsRows, IsEntered, OffersKeepRows, KeptRowsAreOffered}
use Rattle.pricing.specs.Rows.{counters_of, route_to}
use Rattle.pricing.specs.inside.Truth.{place_of, row_of, IsKept}
use Rattle.fee_pricing.specs.Arcs.{weight_by}
use Rattle.fee_pricing.specs.inside.Truth.{IsTrueRoute, IsTrueAt, AreTrue, IsNext}
use Rattle.fee_pricing.specs.inside.Laws.{KeptRowsAreTrue, OffersKeepTruth}
use Rattle.fee_pricing.proofs.ArcSums.{one_more}
use Rattle.fee_pricing.proofs.Routes.{route_of_row, same_route}

module _ (legal_more : LegalWithOneMore) (counters_more : CountersWithOneMore) (place_more : PlaceWithOneMore) (usable_more : UsableWithOneMore)
    (arc : Place → ℕ → ℤ) (book : BookSeen) (marks : List Fact) (k : ℕ) where
  abbrev here : (List ℕ → List ℤ)
  here = λ route. weight_by arc route ∷ counters_after book k route

  -- a route whose end is taken as the place, and whose weight and counters as the row
  longer_here : (route : List ℕ) (x : Place) (row : List ℤ) (b : ℕ) (next : List ℤ) → IsTrueRoute arc book marks k route x row
      → IsNext arc book marks k (end_place route) (here route) b next → IsTrueRoute arc book marks k (route ++ b ∷ []) (After b) next
  longer_here route x row b next truth goes = record {
    legal = (legal_more book k route b).1 (record { before = truth.legal; link = goes.usable.link; within = goes.within });
    usable = (usable_more book marks k Carry route b).1 (truth.usable, goes.usable);
    values = goes.values ∙ ap (λ (w : ℤ). w ∷ step book k (end_place route) b (counters_after book k route)) (sym (one_more arc Carry route b))
        ∙ ap (λ (values : List ℤ). weight_by arc (route ++ b ∷ []) ∷ values) (sym (counters_more book k route b));
    place = place_more Carry route b;
    alive = goes.usable.after;
    counts = subst AreCounts (sym (ap counters_of goes.values)) goes.counts;
  }

  longer : (route : List ℕ) (x : Place) (row : List ℤ) (b : ℕ) (next : List ℤ) → IsTrueRoute arc book marks k route x row
      → IsNext arc book marks k x row b next → IsTrueRoute arc book marks k (route ++ b ∷ []) (After b) next
  longer route x row b next truth goes =
      longer_here route x row b next truth (subst (λ (y : Place). IsNext arc book marks k y (here route) b next) (sym truth.place)
      (subst (λ (r : List ℤ). IsNext arc book marks k x r b next) truth.values goes))

  stays : (old new : StoreSeen) (row : Option ℕ) → KeepsRows old new → IsStore old → IsKept old row
      → IsTrueAt arc book marks k old row → IsTrueAt arc book marks k new row
  stays old new None keeps sound kept truth = truth
  stays old new (Some j) keeps sound kept truth =
      subst (λ (r : List ℕ). IsTrueRoute arc book marks k r (place_of new (Some j)) (row_of book k new (Some j))) (sym (same_route old new keeps sound.below (Some j) kept))
      (subst (λ (a : ℕ). IsTrueRoute arc book marks k (route_to old (Some j)) (After a) (row_of book k new (Some j))) (sym (keeps.nodes j kept))
      (subst (λ (r : List ℤ). IsTrueRoute arc book marks k (route_to old (Some j)) (place_of old (Some j)) r) (sym (keeps.rows j kept)) truth))

  -- the row that entered
  entered : (old new : StoreSeen) (parent : Option ℕ) (b i : ℕ) (row : List ℤ) → KeepsRows old new → IsStore old → IsStore new → IsKept old parent → i < length new.rows
      → IsEntered new i b parent row → IsTrueAt arc book marks k old parent
      → IsNext arc book marks k (place_of old parent) (row_of book k old parent) b row → IsTrueAt arc book marks k new (Some i)
  entered old new parent b i row keeps sound sound_new kept lt enters truth goes =
      let route : route_to new (Some i) ≡ route_to old parent ++ b ∷ [] =
      route_of_row new sound_new.below i lt ∙ ap (λ (p : Option ℕ). route_to new p ++ node_of new i ∷ []) enters.came_from
      ∙ ap (λ (r : List ℕ). r ++ node_of new i ∷ []) (same_route old new keeps sound.below parent kept)
      ∙ ap (λ (a : ℕ). route_to old parent ++ a ∷ []) enters.place in
      subst (λ (r : List ℕ). IsTrueRoute arc book marks k r (place_of new (Some i)) (row_of book k new (Some i))) (sym route)
      (subst (λ (a : ℕ). IsTrueRoute arc book marks k (route_to old parent ++ b ∷ []) (After a) (row_of book k new (Some i))) (sym enters.place)
      (subst (λ (r : List ℤ). IsTrueRoute arc book marks k (route_to old parent ++ b ∷ []) (After b) r) (sym enters.values)
      (longer (route_to old parent) (place_of old parent) (row_of book k old parent) b row truth goes)))

  with_one_more : (old new : StoreSeen) (parent : Option ℕ) (b i : ℕ) (row : List ℤ) → KeepsRows old new → IsStore old → IsStore new → AreTrue arc book marks k old → IsKept old parent
      → IsEntered new i b parent row → i ≡ length old.rows → length new.rows ≡ length old.rows + 1 → IsTrueAt arc book marks k old parent
      → IsNext arc book marks k (place_of old parent) (row_of book k old parent) b row → AreTrue arc book marks k new
  with_one_more old new parent b i row keeps sound sound_new truths kept enters last count truth goes j lt = elim (cases_lt j (length old.rows)) [
    | inl less ↦ stays old new (Some j) keeps sound less (truths j less)
    | inr more ↦ let same : i ≡ j = omega (arith, last, more, lt, count) in
        subst (λ (m : ℕ). IsTrueAt arc book marks k new (Some m)) same
        (entered old new parent b i row keeps sound sound_new kept (omega (arith, last, count)) enters truth goes)
  ]

pub offers_keep_truth : LegalWithOneMore → CountersWithOneMore → PlaceWithOneMore → UsableWithOneMore → OffersKeepRows → KeptRowsAreOffered → OffersKeepTruth
offers_keep_truth legal_more counters_more place_more usable_more rows_stay enter arc book marks k old new parent b row (Covered j) sound sound_new truths kept truth goes offers =
    subst (AreTrue arc book marks k) (sym offers.1) truths
offers_keep_truth legal_more counters_more place_more usable_more rows_stay enter arc book marks k old new parent b row (Kept i) sound sound_new truths kept truth goes offers =
    with_one_more legal_more counters_more place_more usable_more arc book marks k old new parent b i row
    (rows_stay old new b parent row (Kept i) sound offers) sound sound_new truths kept (enter old new b parent row i sound offers) offers.1
    (ap (λ (s : StoreSeen). length s.rows) offers.2 ∙ length-append old.rows (row ∷ [])) truth goes

-- the carry-in is true, with the empty route
carry_counts : (book : BookSeen) (k : ℕ) → IsBook book → k < aircraft book → AreCounts (carry_of book k)
carry_counts book k sound hk i d lt =
    let range = (sound.tails k no_tail hk).carry i d lt in
    record { least = range.least; most = omega (arith, ints, range.most) }

pub kept_true : KeptRowsAreTrue
kept_true arc book marks k store sound hk truths None kept = record {
  legal = tt;
  usable = tt;
  values = refl;
  place = refl;
  alive = tt;
  counts = carry_counts book k sound hk;
}
kept_true arc book marks k store sound hk truths (Some j) kept = truths j kept
