-- The family of all labels: for each activity in rising order, and each beginning that goes on to it, the label there. It is
-- closed by itself, since a beginning with one activity more is again a beginning. A member at which the aircraft may end is
-- that of a whole route that fits.
use Rattle.std.proofs.Common.{◌≡◌, ℕ, zero, suc, ℤ, ◌<◌, ◌≤◌, arith, refl, sym, subst, List, [], ◌∷◌, ◌++◌, length, map, get_or}
use Rattle.std.proofs.lemmas.List.Elements.{All-nil, All-append, All-map, All-contains_itself, Contains-append_right}
use Rattle.std.specs.Prelude.{All, AllPairs}
use Rattle.std.specs.List.{Contains}
use Rattle.tail_book.specs.Seen.{CounterSeen, BookSeen}
use Rattle.tail_book.specs.TableSeen.{CostTableSeen}
use Rattle.tail_book.specs.declared.place.Place.{Place}
use Rattle.tail_book.specs.declared.place.Place.TheVariants.{Carry, After}
use Rattle.tail_book.specs.Lookup.{activities}
use Rattle.tail_book.specs.Counters.{WithinLimits}
use Rattle.tail_book.specs.Link.{IsLink}
use Rattle.tail_book.specs.inside.OneMore.{end_place, LegalWithOneMore, PlaceWithOneMore, CountersWithOneMore}
use Rattle.tail_book.specs.inside.Rising.{LinksRise}
use Rattle.tail_book.specs.inside.Route.{counters_after}
use Rattle.tail_book.specs.inside.Sound.{IsBook}
use Rattle.tail_book.specs.inside.Tests.{LimitsDecide}
use Rattle.branch_marks.specs.declared.fact.Fact.{Fact}
use Rattle.branch_marks.specs.Families.{GoesOn}
use Rattle.branch_marks.specs.Labels.{Label, IsCoveredBy, label_after, LabelsCoverThemselves}
use Rattle.branch_marks.specs.Marks.{IsAlive, IsUsable, MayEnd}
use Rattle.branch_marks.specs.ProofTree.{IsShownFamily}
use Rattle.branch_marks.specs.Weights.{weight, IsRouteOfWeight, WeightWithOneMore}
use Rattle.branch_marks.specs.inside.Fitting.{FitsIsUsableToItsEnd, UsableWithOneMore}
use Rattle.branch_marks.specs.inside.MarkTests.{UsableDecides}
use Rattle.branch_marks.specs.inside.WholeFamilies.{AreEndsOfRoutes}
use Rattle.branch_marks.proofs.WholeLists.{kept, map_contained, pairs_then}
use Rattle.branch_marks.proofs.Beginnings.{IsBeginning, beginnings, beginnings_to, beginning_kept, empty_begins, longer_begins, goes_on, goes_on_contained, longer_is_beginning, is_beginning_to}

-- the label after b, from the end of a route
abbrev pub label_to : CostTableSeen → BookSeen → ℕ → List ℤ → ℕ → List ℕ → Label
label_to table book k duals b route = label_after table book k duals (end_place route) (weight table book k duals route) (counters_after book k route) b

-- the labels at the activities below a number
abbrev pub labels_below : CostTableSeen → BookSeen → List Fact → ℕ → List ℤ → ℕ → List Label
labels_below table book marks k duals zero = []
labels_below table book marks k duals (suc b) = labels_below table book marks k duals b ++ map (label_to table book k duals b) (beginnings_to book marks k b)

-- the labels at all activities
abbrev pub whole_family : CostTableSeen → BookSeen → List Fact → ℕ → List ℤ → List Label
whole_family table book marks k duals = labels_below table book marks k duals (activities book)

-- values within the limits are as many as the counters
within_counts : (counters : List CounterSeen) (values : List ℤ) → WithinLimits counters values → length values ≡ length counters
within_counts [] [] h = refl
within_counts [] (v ∷ values) h = absurd h
within_counts (c ∷ counters) [] h = absurd h
within_counts (c ∷ counters) (v ∷ values) h = let e = within_counts counters values h.1 in omega (arith, e)

module _ (table : CostTableSeen) (book : BookSeen) (marks : List Fact) (k : ℕ) (duals : List ℤ) where
  abbrev labels : ℕ → List Label
  labels n = labels_below table book marks k duals n

  abbrev routes_to : ℕ → List (List ℕ)
  routes_to b = beginnings_to book marks k b

  abbrev label_at : ℕ → List ℕ → Label
  label_at b route = label_to table book k duals b route

  -- what holds at each activity of the label of each beginning that goes on to it, holds of all labels
  each_label : (P : Label → Type 0) (n : ℕ) → ((b : ℕ) → b < n → (route : List ℕ) → Contains (routes_to b) route → P (label_at b route)) → All P (labels n)
  each_label P zero each = All-nil P
  each_label P (suc b) each =
      All-append P (labels b) (map (label_at b) (routes_to b))
      (each_label P b (λ a less route has. each a (omega (arith, less)) route has))
      (All-map P (label_at b) (routes_to b) (λ i d less. each b (omega arith) (get_or (routes_to b) i d) (All-contains_itself (routes_to b) i d less)))

  abbrev NotAbove : Label → Label → Type 0
  NotAbove label other = label.at ≤ other.at

  in_order : (n : ℕ) → AllPairs NotAbove (labels n)
  in_order zero = λ i j d below less. absurd (omega (arith, less))
  in_order (suc b) =
      let here : All (λ (label : Label). label.at ≡ b) (map (label_at b) (routes_to b)) =
      All-map (λ (label : Label). label.at ≡ b) (label_at b) (routes_to b) (λ i d less. refl) in
      pairs_then NotAbove (labels b) (map (label_at b) (routes_to b)) (in_order b)
      (λ i j d below less. let one = here i d (omega (arith, below, less)) in let other = here j d less in omega (arith, one, other))
      (each_label (λ (label : Label). All (NotAbove label) (map (label_at b) (routes_to b))) b
      (λ a less route has i d inside. let at = here i d inside in omega (arith, less, at)))

  module _ (usable : UsableDecides) (limits : LimitsDecide) (itself : LabelsCoverThemselves) (rise : LinksRise) (sound : IsBook book)
      (more_legal : LegalWithOneMore) (more_usable : UsableWithOneMore) (place : PlaceWithOneMore) (counters : CountersWithOneMore) (weighs : WeightWithOneMore) where
    -- the label to b is a member, and so covered by one
    covered : (b : ℕ) → b < activities book → (route : List ℕ) → Contains (routes_to b) route → IsCoveredBy (labels (activities book)) (label_at b route)
    covered b less route has =
        let at_b = Contains-append_right (labels b) (map (label_at b) (routes_to b)) (label_at b route) (map_contained (label_at b) (routes_to b) route has) in
        let (i, inside, is) = kept labels (λ a. map (label_at a) (routes_to a)) (λ a. refl) (label_at b route) (suc b) (activities book) (omega (arith, less)) at_b in
        (i, label_at b route, inside, is, itself (label_at b route))

    -- from the end of a beginning the family goes on, where all that comes after it has a number from n on
    goes_on_from : (n : ℕ) (route : List ℕ) → Contains (beginnings book marks k n) route
        → ((b : ℕ) → b < activities book → IsUsable book marks k (end_place route) b → n ≤ b)
        → GoesOn table book marks k duals (labels (activities book)) (end_place route) (weight table book k duals route) (counters_after book k route)
    goes_on_from n route has later b less is_usable within =
        covered b less route
        (goes_on_contained book marks k usable limits b route (beginning_kept book marks k route n b (later b less is_usable) has) (record { usable = is_usable; within = within }))

    -- so it does from the label to b
    goes_on_behind : (b : ℕ) → b < activities book → (route : List ℕ) → Contains (routes_to b) route
        → GoesOn table book marks k duals (labels (activities book)) (After b) (label_at b route).weight (label_at b route).counters
    goes_on_behind b less route has =
        let at_b : end_place (route ++ b ∷ []) ≡ After b = place Carry route b in
        let later : (c : ℕ) → c < activities book → IsUsable book marks k (end_place (route ++ b ∷ [])) c → suc b ≤ c =
        λ c below is_usable. let up = rise book sound k b c less below (subst (λ (x : Place). IsLink book k x c) at_b is_usable.link) in omega (arith, up) in
        let goes = goes_on_from (suc b) (route ++ b ∷ []) (longer_begins book marks k b route has) later in
        let from_b = subst (λ (x : Place). GoesOn table book marks k duals (labels (activities book)) x (weight table book k duals (route ++ b ∷ [])) (counters_after book k (route ++ b ∷ []))) at_b goes in
        let weighed = subst (λ (w : ℤ). GoesOn table book marks k duals (labels (activities book)) (After b) w (counters_after book k (route ++ b ∷ []))) (weighs table book k duals route b) from_b in
        subst (λ (values : List ℤ). GoesOn table book marks k duals (labels (activities book)) (After b) (label_at b route).weight values) (counters book k route b) weighed

    pub whole_is_shown : IsShownFamily table book marks k duals (whole_family table book marks k duals)
    whole_is_shown = record {
      closed = record {
        alive = each_label (λ (label : Label). IsAlive book marks k label.at) (activities book) (λ b less route has. (goes_on book marks k usable limits b route has).usable.after);
        first = goes_on_from 0 [] (empty_begins book marks k) (λ b less is_usable. omega arith);
        next = each_label (λ (label : Label). GoesOn table book marks k duals (labels (activities book)) (After label.at) label.weight label.counters) (activities book) goes_on_behind;
      };
      ordered = in_order (activities book);
      counted = each_label (λ (label : Label). length label.counters ≡ length book.rules.counters) (activities book)
          (λ b less route has. within_counts book.rules.counters (label_at b route).counters (goes_on book marks k usable limits b route has).within);
    }

    -- a beginning with b at its end
    is_longer : (b : ℕ) (route : List ℕ) → Contains (routes_to b) route → IsBeginning book marks k (route ++ b ∷ [])
    is_longer b route has =
        longer_is_beginning book marks k usable limits more_legal more_usable b route
        (is_beginning_to book marks k usable limits more_legal more_usable b route has) (goes_on book marks k usable limits b route has)

    -- where the aircraft may end after b, it fits, and weighs what the label does
    pub whole_ends : FitsIsUsableToItsEnd → AreEndsOfRoutes table book marks k duals (whole_family table book marks k duals)
    whole_ends ends =
        each_label (λ (label : Label). MayEnd marks k (After label.at) → (route : List ℕ) × IsRouteOfWeight table book marks k duals label.weight route) (activities book)
        (λ b less route has may.
        let is = is_longer b route has in (
          route ++ b ∷ [],
          record {
            legal = is.legal;
            fits = (ends book marks k Carry (route ++ b ∷ [])).1 (is.usable, subst (λ (x : Place). MayEnd marks k x) (sym (place Carry route b)) may);
            weighs = weighs table book k duals route b;
          },
        ))
