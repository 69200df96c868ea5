-- The lines inside a leaf pass where the leaf is shown. The labels of a shown family are alive, in order of activity,
-- and have a value for each counter, so each passes as it comes: by the list, with the least activity that may still
-- come. Duals pass in order of activity, those that are 0 without a line, and covers in order of aircraft, each when
-- the one before it is shown.
use Rattle.std.proofs.Common.{◌≡◌, ◌∙◌, ◌+◌, ◌<◌, ◌≤◌, ◌+ℤ◌, ℕ, ℤ, zero, suc, pos, negsuc, true, List, [], ◌∷◌, ◌++◌, Option, Some, None, ◌&&◌, ◌==◌, nat_le, nat_lt, length, map, refl, sym, ap, subst, arith, append_assoc, length-append, replicate}
use Rattle.std.proofs.lemmas.Bool.{and_parts}
use Rattle.std.proofs.lemmas.Bool.Decides.{nat_tests}
use Rattle.std.proofs.lemmas.Int.{ints}
use Rattle.std.proofs.lemmas.List.{append-nil, map-append, set_at}
use Rattle.std.specs.List.{list_all}
use Rattle.std.specs.Prelude.{⊤, slice_set}
use Rattle.tail_book.specs.Lookup.{activities, aircraft, carry_of}
use Rattle.tail_book.specs.Seen.{BookSeen}
use Rattle.tail_book.specs.CostTable.{costs_of}
use Rattle.tail_book.specs.Sums.{total}
use Rattle.branch_marks.specs.Labels.{Label}
use Rattle.branch_marks.specs.ProofTree.{Cover}
use Rattle.branch_marks.specs.declared.event.Event.TheVariants as events
use Rattle.branch_marks.specs.declared.fact.Fact.{Fact}
use Rattle.branch_marks.specs.MarkTests.{is_alive}
use Rattle.branch_marks.specs.TreeTests.{is_in_box, is_shown_cover, is_shown_family}
use Rattle.cert_lines.specs.declared.cert_line.CertLine.{CertLine}
use Rattle.cert_lines.specs.declared.cert_line.CertLine.TheVariants as lines
use Rattle.cert_checker.specs.Step.{owed_with, priced_section, rest_owed, take_dual_in, take_line}
use Rattle.cert_checker.specs.State.{OpenLeaf, State, Section, InBound}
use Rattle.branch_marks.specs.TreeEvents.{cover_events, dual_events, label_event, label_events, dual_event}
use Rattle.cert_checker.specs.Verdict.{leaf_fails}
use Rattle.tail_book.specs.Pairs.{each_pair}
use Rattle.branch_marks.specs.FamilyTests.{ends_at_least, goes_on, is_closed_family}
use Rattle.tail_book.specs.declared.place.Place.TheVariants.{After, Carry}
use Rattle.cert_checker.proofs.InLeaf.{rest_is}
use Rattle.cert_checker.proofs.Running.{IsKept, Passes, label_passes, one_passes, passes_then}

pub same_number : (n : ℕ) → (n == n) ≡ true
same_number n = grind (arith, nat_tests)

is_less : (m n : ℕ) → m < n → nat_lt m n ≡ true
is_less m n h = grind (arith, nat_tests)

is_most : (m n : ℕ) → m ≤ n → nat_le m n ≡ true
is_most m n h = grind (arith, nat_tests)

-- what is kept in a section
abbrev pub kept_in : ℕ → ℕ → Section → List (List Fact) → Option OpenLeaf → Option ℕ → State
kept_in version n section owed leaf least = record { lines = n; version = version; section = section; owed = owed; leaf = leaf; low = least }

-- labels that may come one after the other
abbrev pub LabelsFit : BookSeen → List Fact → ℕ → ℕ → List Label → Type 0
LabelsFit book marks k next [] = ⊤
LabelsFit book marks k next (label ∷ labels) =
    (nat_le next label.at ≡ true) × (is_alive book marks k label.at ≡ true) × ((length label.counters == length book.rules.counters) ≡ true) × LabelsFit book marks k label.at labels

labels_fit_from : (book : BookSeen) (marks : List Fact) (k next : ℕ) (labels : List Label) → list_all (λ (label : Label). nat_le next label.at) labels ≡ true
    → list_all (λ (label : Label). is_alive book marks k label.at) labels ≡ true → each_pair (λ (label other : Label). nat_le label.at other.at) labels ≡ true
    → list_all (λ (label : Label). length label.counters == length book.rules.counters) labels ≡ true → LabelsFit book marks k next labels
labels_fit_from book marks k next [] behind alive ordered counted = tt
labels_fit_from book marks k next (label ∷ labels) behind alive ordered counted =
    let first = and_parts (nat_le next label.at) (list_all (λ (label : Label). nat_le next label.at) labels) behind in
    let lives = and_parts (is_alive book marks k label.at) (list_all (λ (label : Label). is_alive book marks k label.at) labels) alive in
    let rises = and_parts (list_all (λ (other : Label). nat_le label.at other.at) labels) (each_pair (λ (label other : Label). nat_le label.at other.at) labels) ordered in
    let counts = and_parts (length label.counters == length book.rules.counters) (list_all (λ (label : Label). length label.counters == length book.rules.counters) labels) counted in
    (first.0, lives.0, counts.0, labels_fit_from book marks k label.at labels rises.0 lives.1 rises.1 counts.1)

from_zero : (labels : List Label) → list_all (λ (label : Label). nat_le 0 label.at) labels ≡ true
from_zero [] = refl
from_zero (label ∷ labels) = rw (is_most 0 label.at (omega arith), from_zero labels) refl

-- the labels of a family that is shown
pub labels_fit : (book : BookSeen) (marks : List Fact) (k : ℕ) (duals : List ℤ) (family : List Label) → is_shown_family (costs_of book) book marks k duals family ≡ true → LabelsFit book marks k 0 family
labels_fit book marks k duals family e =
    let parts = and_parts (is_closed_family (costs_of book) book marks k duals family)
    (each_pair (λ (label other : Label). nat_le label.at other.at) family && list_all (λ (label : Label). length label.counters == length book.rules.counters) family) e in
    let others = and_parts (each_pair (λ (label other : Label). nat_le label.at other.at) family) (list_all (λ (label : Label). length label.counters == length book.rules.counters) family) parts.1 in
    let alive = and_parts (list_all (λ (label : Label). is_alive book marks k label.at) family)
    (goes_on (costs_of book) book marks k duals family Carry (pos 0) (carry_of book k)
    && list_all (λ (member : Label). goes_on (costs_of book) book marks k duals family (After member.at) member.weight member.counters) family) parts.0 in
    labels_fit_from book marks k 0 family (from_zero family) alive.0 others.0 others.1

module _ (version : ℕ) (book : BookSeen) (of_book : (marks : List Fact) (k a : ℕ) → is_alive book marks k a ≡ true → a < activities book) where
  pub labels_pass : (labels : List Label) (n : ℕ) (section : Section) → ((state : State) → priced_section book state section ≡ state) → (owed : List (List Fact)) (least : Option ℕ) (leaf : OpenLeaf) → LabelsFit book leaf.marks leaf.k leaf.next labels
      → (m next : ℕ) × Passes book (kept_in version n section owed (Some leaf) least) (map lines.Event (label_events labels))
      (kept_in version m section owed (Some (record leaf { next = next; family = leaf.family ++ labels })) least)
  labels_pass [] n section calm owed least leaf fit =
      (n, leaf.next, ap (λ (family : List Label). kept_in version n section owed (Some (record leaf { family = family })) least) (sym (append-nil leaf.family)))
  labels_pass (label ∷ labels) n section calm owed least leaf fit =
      let in_book = is_less label.at (activities book) (of_book leaf.marks leaf.k label.at fit.1) in
      let with_label : OpenLeaf = record leaf { next = label.at; family = leaf.family ++ label ∷ [] } in
      let one = label_passes book (kept_in version n section owed (Some leaf) least) (kept_in version n section owed (Some with_label) least) (lines.Event (label_event label)) refl refl
      (ap (λ (here : State). take_line book here (lines.Event (label_event label))) (calm (kept_in version n section owed (Some leaf) least)) ∙ rw (fit.0, in_book, fit.2, fit.1) refl) in
      let (m, next, more) = labels_pass labels (n + 1) section calm owed least with_label fit.3 in
      let all = passes_then book (lines.Event (label_event label) ∷ []) (map lines.Event (label_events labels)) (kept_in version n section owed (Some leaf) least) (kept_in version (n + 1) section owed (Some with_label) least)
      (kept_in version m section owed (Some (record with_label { next = next; family = with_label.family ++ labels })) least) one more in (
        m,
        next,
        subst (λ (family : List Label). Passes book (kept_in version n section owed (Some leaf) least) (map lines.Event (label_events (label ∷ labels)))
            (kept_in version m section owed (Some (record leaf { next = next; family = family })) least)) (append_assoc leaf.family (label ∷ []) labels) all,
      )

  -- a leaf that takes duals
  module _ (in_leaf : List ℤ → ℕ → Section) (owed : List (List Fact)) (least : Option ℕ)
      (takes : (n : ℕ) (duals : List ℤ) (next a : ℕ) (v : ℤ) → nat_le next a ≡ true → nat_lt a (activities book) ≡ true → is_in_box (costs_of book) v ≡ true
      → IsKept (take_dual_in book (kept_in version n (in_leaf duals next) owed None least) a v (in_leaf duals next)) (kept_in version n (in_leaf (slice_set duals a v) (a + 1)) owed None least)) where
    abbrev begun : ℕ → List ℤ → ℕ → State
    begun n duals next = kept_in version n (in_leaf duals next) owed None least

    abbrev pub DualsPass : ℕ → ℕ → ℕ → List ℤ → List ℤ → List ℤ → Type 0
    DualsPass a n next before duals more =
        (m behind : ℕ) × (after : List ℤ) × (after ≡ before ++ more) × Passes book (begun n duals next) (map lines.Event (dual_events a more)) (begun m after behind)

    abbrev zeros_for : List ℤ → List ℤ
    zeros_for more = replicate (length more) (pos 0)

    one_dual : (a n next : ℕ) (before duals : List ℤ) (v : ℤ) (more : List ℤ) → dual_event a v ≡ events.Dual a v ∷ [] → a ≡ length before → duals ≡ before ++ (pos 0 ∷ zeros_for more) → next ≤ a → a < activities book
        → is_in_box (costs_of book) v ≡ true
        → ((now : List ℤ) → now ≡ (before ++ v ∷ []) ++ zeros_for more → DualsPass (a + 1) (n + 1) (a + 1) (before ++ v ∷ []) now more)
        → DualsPass a n next before duals (v ∷ more)
    one_dual a n next before duals v more told here is from few boxed rest =
        let set : slice_set duals a v ≡ (before ++ v ∷ []) ++ zeros_for more =
        rw is (set_at before (pos 0) (zeros_for more) v a (sym here)) ∙ sym (append_assoc before (v ∷ []) (zeros_for more)) in
        let one = one_passes book (begun n duals next) (begun n (slice_set duals a v) (a + 1)) (lines.Event (events.Dual a v)) refl refl refl (takes n duals next a v (is_most next a from) (is_less a (activities book) few) boxed) in
        let (m, behind, after, is_after, passes) = rest (slice_set duals a v) set in
        let all = passes_then book (lines.Event (events.Dual a v) ∷ []) (map lines.Event (dual_events (a + 1) more)) (begun n duals next) (begun (n + 1) (slice_set duals a v) (a + 1)) (begun m after behind) one passes in (
          m,
          behind,
          after,
          is_after ∙ append_assoc before (v ∷ []) more,
          rw told all,
        )

    pub duals_pass : (more : List ℤ) (a n next : ℕ) (before duals : List ℤ) → a ≡ length before → duals ≡ before ++ zeros_for more → next ≤ a → a + length more ≡ activities book
        → list_all (is_in_box (costs_of book)) more ≡ true → DualsPass a n next before duals more
    duals_pass [] a n next before duals here is from all boxed = (n, next, duals, is, refl)
    duals_pass (pos zero ∷ more) a n next before duals here is from all boxed =
        let parts = and_parts (is_in_box (costs_of book) (pos 0)) (list_all (is_in_box (costs_of book)) more) boxed in
        let (m, behind, after, is_after, passes) = duals_pass more (a + 1) n next (before ++ pos 0 ∷ []) duals (omega (arith, here, length-append before (pos 0 ∷ []))) (is ∙ sym (append_assoc before (pos 0 ∷ []) (zeros_for more)))
        (omega (arith, from)) (omega (arith, all)) parts.1 in
        (m, behind, after, is_after ∙ append_assoc before (pos 0 ∷ []) more, passes)
    duals_pass (pos (suc v) ∷ more) a n next before duals here is from all boxed =
        let parts = and_parts (is_in_box (costs_of book) (pos (suc v))) (list_all (is_in_box (costs_of book)) more) boxed in
        one_dual a n next before duals (pos (suc v)) more refl here is from (omega (arith, all)) parts.0
        (λ now set. duals_pass more (a + 1) (n + 1) (a + 1) (before ++ pos (suc v) ∷ []) now (omega (arith, here, length-append before (pos (suc v) ∷ []))) set (omega arith) (omega (arith, all)) parts.1)
    duals_pass (negsuc v ∷ more) a n next before duals here is from all boxed =
        let parts = and_parts (is_in_box (costs_of book) (negsuc v)) (list_all (is_in_box (costs_of book)) more) boxed in
        one_dual a n next before duals (negsuc v) more refl here is from (omega (arith, all)) parts.0
        (λ now set. duals_pass more (a + 1) (n + 1) (a + 1) (before ++ negsuc v ∷ []) now (omega (arith, here, length-append before (negsuc v ∷ []))) set (omega arith) (omega (arith, all)) parts.1)

  -- covers that are shown, of aircraft k, k + 1 and so on
  abbrev pub CoversFit : List Fact → List ℤ → ℕ → List Cover → Type 0
  CoversFit marks duals k [] = ⊤
  CoversFit marks duals k (cover ∷ covers) = (is_shown_cover (costs_of book) book marks k duals cover ≡ true) × CoversFit marks duals (k + 1) covers

  -- a bound leaf with so many covers
  abbrev pub bound_with : List Fact → List ℤ → ℕ → ℕ → ℤ → Section
  bound_with marks duals next covers values = InBound (record { marks = marks; duals = duals; next = next; covers = covers; values = values })

  module _ (marks : List Fact) (duals : List ℤ) (next : ℕ) (others : List (List Fact)) (least : Option ℕ) where
    pub covers_pass : (covers : List Cover) (k n : ℕ) (values : ℤ) (owed : List (List Fact)) (leaf : Option OpenLeaf) → leaf_fails book leaf ≡ None → CoversFit marks duals k covers
        → k + length covers ≡ aircraft book → owed ≡ owed_with book k marks others
        → (m : ℕ) × (sum : ℤ) × (last : Option OpenLeaf) × (left : List (List Fact)) × (sum ≡ (values +ℤ total (map (λ (cover : Cover). cover.value) covers))) × (leaf_fails book last ≡ None) × (left ≡ others)
        × Passes book (kept_in version n (bound_with marks duals next k values) owed leaf least) (map lines.Event (cover_events k covers)) (kept_in version m (bound_with marks duals next (aircraft book) sum) left last least)
    covers_pass [] k n values owed leaf fine fit all is =
        let whole : k ≡ aircraft book = omega (arith, all) in
        let full : (k == aircraft book) ≡ true = rw whole (same_number (aircraft book)) in
        (n, values, leaf, owed, omega (arith, ints), fine, is ∙ rw full refl, ap (λ (k : ℕ). kept_in version n (bound_with marks duals next k values) owed leaf least) whole)
    covers_pass (cover ∷ covers) k n values owed leaf fine fit all is =
        let few : k < aircraft book = omega (arith, all) in
        let opened : OpenLeaf = record { line = n + 1; k = k; marks = marks; duals = duals; value = Some cover.value; next = 0; family = [] } in
        let owed_now : List (List Fact) = owed_with book (k + 1) marks (rest_owed owed) in
        let one = one_passes book (kept_in version n (bound_with marks duals next k values) owed leaf least) (kept_in version n (bound_with marks duals next (k + 1) (values +ℤ cover.value)) owed_now (Some opened) least)
        (lines.Event (events.Cover k cover.value)) refl refl fine (rw (same_number k, is_less k (aircraft book) few) refl) in
        let family = and_parts (is_shown_family (costs_of book) book marks k duals cover.family) (ends_at_least marks k cover.family cover.value) fit.0 in
        let (m, at, labels) = labels_pass cover.family (n + 1) (bound_with marks duals next (k + 1) (values +ℤ cover.value)) (λ state. refl) owed_now least opened (labels_fit book marks k duals cover.family family.0) in
        let shown : leaf_fails book (Some (record opened { next = at; family = cover.family })) ≡ None = rw fit.0 refl in
        let rest = rest_is book k marks owed others few is in
        let (last_line, sum, last, left, sum_is, last_fine, left_is, more) = covers_pass covers (k + 1) m (values +ℤ cover.value) owed_now (Some (record opened { next = at; family = cover.family })) shown fit.1 (omega (arith, all))
        (ap (λ (others : List (List Fact)). owed_with book (k + 1) marks others) rest) in
        let before : State = kept_in version n (bound_with marks duals next k values) owed leaf least in
        let first : State = kept_in version (n + 1) (bound_with marks duals next (k + 1) (values +ℤ cover.value)) owed_now (Some opened) least in
        let labelled : State = kept_in version m (bound_with marks duals next (k + 1) (values +ℤ cover.value)) owed_now (Some (record opened { next = at; family = cover.family })) least in
        let after : State = kept_in version last_line (bound_with marks duals next (aircraft book) sum) left last least in
        let tail = passes_then book (map lines.Event (label_events cover.family)) (map lines.Event (cover_events (k + 1) covers)) first labelled after labels more in
        let whole = passes_then book (lines.Event (events.Cover k cover.value) ∷ []) (map lines.Event (label_events cover.family) ++ map lines.Event (cover_events (k + 1) covers)) before first after one tail in
        let spelled : map lines.Event (cover_events k (cover ∷ covers)) ≡ lines.Event (events.Cover k cover.value) ∷ (map lines.Event (label_events cover.family) ++ map lines.Event (cover_events (k + 1) covers)) =
        ap (λ rest. lines.Event (events.Cover k cover.value) ∷ rest) (map-append lines.Event (label_events cover.family) (cover_events (k + 1) covers)) in
        (last_line, sum, last, left, sum_is ∙ omega (arith, ints), last_fine, left_is, subst (λ (all : List CertLine). Passes book before all after) (sym spelled) whole)
