-- The lines inside a leaf: a dual, a cover and a label each join the part of the leaf that was told. Each has its one
-- place: a dual before all covers, a cover of the aircraft that comes next, a label in an open leaf. In any other part
-- the line is not taken, so there is nothing to show. While covers are to come the leaf itself is owed, before the
-- places behind it.
use Rattle.std.proofs.Common.{◌≡◌, ◌∙◌, ◌+◌, ◌<◌, ◌+ℤ◌, ℕ, ℤ, pos, true, false, List, [], ◌∷◌, ◌++◌, Option, Some, None, Ok, ◌&&◌, ◌==◌, nat_le, nat_lt, length, map, refl, sym, ap, arith, append_assoc, length-append}
use Rattle.std.proofs.lemmas.Bool.{and_parts, leb-true, eqb-true}
use Rattle.std.proofs.lemmas.Bool.Decides.{nat_tests}
use Rattle.std.proofs.lemmas.List.{append-nil, length-set, map-append}
use Rattle.std.specs.List.{list_all}
use Rattle.std.specs.Prelude.{slice_set}
use Rattle.tail_book.specs.Lookup.{activities, aircraft}
use Rattle.tail_book.specs.Seen.{BookSeen}
use Rattle.tail_book.specs.CostTable.{costs_of}
use Rattle.tail_text.specs.Checks.{must}
use Rattle.tail_book.specs.Sums.{total}
use Rattle.branch_marks.specs.Labels.{Label}
use Rattle.branch_marks.specs.ProofTree.{Cover, cover_of}
use Rattle.branch_marks.specs.declared.event.Event.TheVariants as events
use Rattle.branch_marks.specs.declared.fact.Fact.{Fact}
use Rattle.branch_marks.specs.MarkTests.{is_alive}
use Rattle.branch_marks.specs.TreeTests.{are_duals, is_in_box, is_shown_cover}
use Rattle.cert_lines.specs.declared.cert_line.CertLine.{CertLine}
use Rattle.cert_lines.specs.declared.cert_line.CertLine.TheVariants as lines
use Rattle.cert_checker.specs.Step.{owed_with, rest_owed, take_cover_in, take_dual_in, take_label_in}
use Rattle.cert_checker.specs.Reasons.{is_shown_leaf}
use Rattle.cert_checker.specs.State.{BoundLeaf, LeanLeaf, OpenLeaf, State, Section, Start, InTree, InBound, InLean, InPlan, Claimed}
use Rattle.branch_marks.specs.TreeEvents.{cover_events, dual_events, label_event, label_events}
use Rattle.cert_checker.specs.Verdict.{leaf_fails}
use Rattle.cert_checker.specs.declared.verdict.Reason.TheVariants.{NotAlive, OutOfBox, OutOfPlace}
use Rattle.cert_checker.proofs.Duals.{all_set, one_dual_more}
use Rattle.cert_checker.proofs.Taking.{behind_parts, beside, leaf_more, told_more}
use Rattle.cert_checker.proofs.Standing.{IsBoundOpen, IsLeanOpen, Stands, StandsAt, all_closed, open_cover, passed, shown_more, through_must, through_ok, tree_front, values_more}

lt_true : (m n : ℕ) → nat_lt m n ≡ true → m < n
lt_true m n e = grind (arith, nat_tests)

same_test : (m n : ℕ) → m ≡ n → (m == n) ≡ true
same_test m n e = grind (arith, nat_tests)

other_test : (m n : ℕ) → m < n → (m == n) ≡ false
other_test m n e = grind (arith, nat_tests)

many_duals : (book : BookSeen) (duals : List ℤ) → are_duals (costs_of book) book duals ≡ true → length duals ≡ activities book
many_duals book duals e = eqb-true (length duals) (activities book) (and_parts (length duals == activities book) (list_all (is_in_box (costs_of book)) duals) e).0

pub duals_set : (book : BookSeen) (duals : List ℤ) (a : ℕ) (v : ℤ) → are_duals (costs_of book) book duals ≡ true → is_in_box (costs_of book) v ≡ true → are_duals (costs_of book) book (slice_set duals a v) ≡ true
duals_set book duals a v e boxed =
    let parts = and_parts (length duals == activities book) (list_all (is_in_box (costs_of book)) duals) e in
    let many : (length (slice_set duals a v) == activities book) ≡ true = same_test (length (slice_set duals a v)) (activities book) (length-set duals a v ∙ eqb-true (length duals) (activities book) parts.0) in
    rw (many, all_set (is_in_box (costs_of book)) duals a v parts.1 boxed) refl

-- where a cover is still to come, the leaf itself is owed first
pub rest_is : (book : BookSeen) (covers : ℕ) (marks : List Fact) (owed others : List (List Fact)) → covers < aircraft book → owed ≡ owed_with book covers marks others → rest_owed owed ≡ others
rest_is book covers marks owed others few is = ap rest_owed is ∙ rw (other_test covers (aircraft book) few) refl

labels_more : (family : List Label) (label : Label) → label_events (family ++ label ∷ []) ≡ label_events family ++ label_event label ∷ []
labels_more family label = map-append label_event family (label ∷ [])

module _ (version : ℕ) (book : BookSeen) (front : List CertLine) (n : ℕ) (owed : List (List Fact)) (least : Option ℕ) where
  abbrev kept_by : Section → Option OpenLeaf → State
  kept_by section leaf = record { lines = n; version = version; section = section; owed = owed; leaf = leaf; low = least }

  -- a dual joins those of a lean leaf
  lean_dual_at : (a : ℕ) (v : ℤ) → (¬ v ≡ pos 0) → (lean : LeanLeaf) (leaf : Option OpenLeaf) → StandsAt version book front (InLean lean) owed leaf least
      → (next : State) → take_dual_in book (kept_by (InLean lean) leaf) a v (InLean lean) ≡ Ok next → Stands book (front ++ lines.Event (events.Dual a v) ∷ []) next
  lean_dual_at a v some lean leaf (told, is, opened, none) next e =
      through_must (nat_le lean.next a && nat_lt a (activities book)) OutOfPlace (must (is_in_box (costs_of book) v) OutOfBox (Ok kept)) P next
      (λ place now. through_must (is_in_box (costs_of book) v) OutOfBox (Ok kept) P next
      (λ boxed now.
      let parts = and_parts (nat_le lean.next a) (nat_lt a (activities book)) place in
      let from = leb-true lean.next a parts.0 in
      let lt : a < length lean.duals = omega (arith, lt_true a (activities book) parts.1, many_duals book lean.duals opened.duals) in
      let dual_more = one_dual_more 0 lean.duals a a v (omega arith) lt (λ j later. opened.zeros j (omega (arith, from, later))) some in
      let told_now : List CertLine = told ++ lines.Event (events.Dual a v) ∷ [] in
      let leaned : List CertLine = opened.before ++ lines.Lean ∷ [] in
      let was : told ≡ leaned ++ map lines.Event (dual_events 0 lean.duals) = opened.lines_are ∙ sym (append_assoc opened.before (lines.Lean ∷ []) (map lines.Event (dual_events 0 lean.duals))) in
      let shape : told_now ≡ opened.before ++ (lines.Lean ∷ map lines.Event (dual_events 0 (slice_set lean.duals a v))) =
      leaf_more told leaned (dual_events 0 lean.duals) (dual_events 0 (slice_set lean.duals a v)) (events.Dual a v) was (sym dual_more)
      ∙ append_assoc opened.before (lines.Lean ∷ []) (map lines.Event (dual_events 0 (slice_set lean.duals a v))) in
      let again : IsLeanOpen version book told_now owed least after = record {
        before = opened.before;
        lines_are = shape;
        grows = opened.grows;
        duals = duals_set book lean.duals a v opened.duals boxed;
        zeros = λ i later. beside lean.duals a i v (omega (arith, later)) ∙ opened.zeros i (omega (arith, from, later));
        second = opened.second;
      } in
      through_ok kept next P (told_now, told_more version book front told (lines.Event (events.Dual a v)) is, again, none) now) now) e
    where
      P : State → Type 0
      P kept = Stands book (front ++ lines.Event (events.Dual a v) ∷ []) kept

      after : LeanLeaf
      after = record lean { duals = slice_set lean.duals a v; next = a + 1 }

      kept : State
      kept = kept_by (InLean after) leaf

  pub dual_at : (a : ℕ) (v : ℤ) → (¬ v ≡ pos 0) → (section : Section) (leaf : Option OpenLeaf) → StandsAt version book front section owed leaf least
      → (next : State) → take_dual_in book (kept_by section leaf) a v section ≡ Ok next → Stands book (front ++ lines.Event (events.Dual a v) ∷ []) next
  dual_at a v some Start leaf h next e = absurd (cc e)
  dual_at a v some InTree leaf h next e = absurd (cc e)
  dual_at a v some (InPlan fliers) leaf h next e = absurd (cc e)
  dual_at a v some (Claimed claim) leaf h next e = absurd (cc e)
  dual_at a v some (InLean lean) leaf h next e = lean_dual_at a v some lean leaf h next e
  dual_at a v some (InBound bound) (Some cover) (told, is, (has, opened)) next e =
      through_must (bound.covers == 0 && (nat_le bound.next a && nat_lt a (activities book))) OutOfPlace _ (Stands book (front ++ lines.Event (events.Dual a v) ∷ [])) next
      (λ place now.
      let none = eqb-true bound.covers 0 (and_parts (bound.covers == 0) (nat_le bound.next a && nat_lt a (activities book)) place).0 in
      absurd (omega (arith, none, has.many))) e
  dual_at a v some (InBound bound) None (told, is, (opened, none, no_values)) next e =
      through_must (bound.covers == 0 && (nat_le bound.next a && nat_lt a (activities book))) OutOfPlace (must (is_in_box (costs_of book) v) OutOfBox (Ok kept)) P next
      (λ place now. through_must (is_in_box (costs_of book) v) OutOfBox (Ok kept) P next
      (λ boxed now.
      let parts = and_parts (nat_le bound.next a) (nat_lt a (activities book)) (and_parts (bound.covers == 0) (nat_le bound.next a && nat_lt a (activities book)) place).1 in
      let from = leb-true bound.next a parts.0 in
      let lt : a < length bound.duals = omega (arith, lt_true a (activities book) parts.1, many_duals book bound.duals opened.duals) in
      let dual_more = one_dual_more 0 bound.duals a a v (omega arith) lt (λ j later. opened.zeros j (omega (arith, from, later))) some in
      let told_now : List CertLine = told ++ lines.Event (events.Dual a v) ∷ [] in
      let parts_are : (events.Bound ∷ (dual_events 0 bound.duals ++ [])) ++ events.Dual a v ∷ [] ≡ events.Bound ∷ (dual_events 0 (slice_set bound.duals a v) ++ []) =
      behind_parts events.Bound (dual_events 0 bound.duals) [] (events.Dual a v ∷ [])
      ∙ ap (λ rest. events.Bound ∷ rest) (sym dual_more ∙ sym (append-nil (dual_events 0 (slice_set bound.duals a v)))) in
      let again : IsBoundOpen version book told_now owed least after [] = record {
        before = opened.before;
        others = opened.others;
        lines_are = leaf_more told opened.before (events.Bound ∷ (dual_events 0 bound.duals ++ [])) (events.Bound ∷ (dual_events 0 (slice_set bound.duals a v) ++ [])) (events.Dual a v) opened.lines_are parts_are;
        owed_are = opened.owed_are;
        grows = opened.grows;
        duals = duals_set book bound.duals a v opened.duals boxed;
        zeros = λ i later. beside bound.duals a i v (omega (arith, later)) ∙ opened.zeros i (omega (arith, from, later));
      } in
      through_ok kept next P (told_now, told_more version book front told (lines.Event (events.Dual a v)) is, (again, none, no_values)) now) now) e
    where
      P : State → Type 0
      P kept = Stands book (front ++ lines.Event (events.Dual a v) ∷ []) kept

      after : BoundLeaf
      after = record bound { duals = slice_set bound.duals a v; next = a + 1 }

      kept : State
      kept = kept_by (InBound after) None

  -- the state after a cover's line
  abbrev cover_kept : ℕ → ℤ → BoundLeaf → State
  cover_kept k v bound = record {
    lines = n;
    version = version;
    section = InBound (record bound { covers = k + 1; values = bound.values +ℤ v });
    owed = owed_with book (k + 1) bound.marks (rest_owed owed);
    leaf = Some (record { line = n + 1; k = k; marks = bound.marks; duals = bound.duals; value = Some v; next = 0; family = [] });
    low = least;
  }

  -- with the covers before it, which are shown
  cover_stands : (k : ℕ) (v : ℤ) (bound : BoundLeaf) (told : List CertLine) → front ≡ tree_front version book told → (closed : List Cover)
      → IsBoundOpen version book told owed least bound (cover_events 0 closed) → k ≡ bound.covers → k < aircraft book → bound.covers ≡ length closed
      → bound.values ≡ total (map (λ (cover : Cover). cover.value) closed)
      → ((j : ℕ) → j < length closed → is_shown_cover (costs_of book) book bound.marks j bound.duals (cover_of closed j) ≡ true)
      → Stands book (front ++ lines.Event (events.Cover k v) ∷ []) (cover_kept k v bound)
  cover_stands k v bound told is closed opened number few many values shown =
      let rest = rest_is book bound.covers bound.marks owed opened.others (omega (arith, number, few)) opened.owed_are in
      let shape = leaf_more told opened.before (events.Bound ∷ (dual_events 0 bound.duals ++ cover_events 0 closed)) (events.Bound ∷ (dual_events 0 bound.duals ++ (cover_events 0 closed ++ events.Cover k v ∷ [])))
      (events.Cover k v) opened.lines_are (behind_parts events.Bound (dual_events 0 bound.duals) (cover_events 0 closed) (events.Cover k v ∷ [])) in (
        told ++ lines.Event (events.Cover k v) ∷ [],
        told_more version book front told (lines.Event (events.Cover k v)) is,
        (
          record {
            closed = closed;
            value = v;
            claims = refl;
            number = number ∙ many;
            many = ap (λ m. m + 1) (number ∙ many);
            marks = refl;
            duals = refl;
            values = ap (λ sum. sum +ℤ v) values;
            shown = shown;
          },
          record {
            before = opened.before;
            others = opened.others;
            lines_are = shape;
            owed_are = ap (λ others. owed_with book (k + 1) bound.marks others) rest;
            grows = opened.grows;
            duals = opened.duals;
            zeros = opened.zeros;
          },
        ),
      )

  pub cover_at : (k : ℕ) (v : ℤ) (section : Section) (leaf : Option OpenLeaf) → StandsAt version book front section owed leaf least → leaf_fails book leaf ≡ None
      → (next : State) → take_cover_in book (kept_by section leaf) k v section ≡ Ok next → Stands book (front ++ lines.Event (events.Cover k v) ∷ []) next
  cover_at k v Start leaf h fine next e = absurd (cc e)
  cover_at k v InTree leaf h fine next e = absurd (cc e)
  cover_at k v (InLean lean) leaf h fine next e = absurd (cc e)
  cover_at k v (InPlan fliers) leaf h fine next e = absurd (cc e)
  cover_at k v (Claimed claim) leaf h fine next e = absurd (cc e)
  cover_at k v (InBound bound) None (told, is, (opened, none, no_values)) fine next e =
      through_must (k == bound.covers && nat_lt k (aircraft book)) OutOfPlace (Ok (cover_kept k v bound)) (Stands book (front ++ lines.Event (events.Cover k v) ∷ [])) next
      (λ place now.
      let parts = and_parts (k == bound.covers) (nat_lt k (aircraft book)) place in
      let stands = cover_stands k v bound told is [] opened (eqb-true k bound.covers parts.0) (lt_true k (aircraft book) parts.1) none no_values (λ j lt. absurd (omega (arith, lt))) in
      through_ok (cover_kept k v bound) next (Stands book (front ++ lines.Event (events.Cover k v) ∷ [])) stands now) e
  cover_at k v (InBound bound) (Some cover) (told, is, (has, opened)) fine next e =
      through_must (k == bound.covers && nat_lt k (aircraft book)) OutOfPlace (Ok (cover_kept k v bound)) (Stands book (front ++ lines.Event (events.Cover k v) ∷ [])) next
      (λ place now.
      let parts = and_parts (k == bound.covers) (nat_lt k (aircraft book)) place in
      let many : bound.covers ≡ length (has.closed ++ open_cover cover has.value ∷ []) = omega (arith, has.many, length-append has.closed (open_cover cover has.value ∷ [])) in
      let stands = cover_stands k v bound told is (has.closed ++ open_cover cover has.value ∷ []) (all_closed version book told owed least bound cover has opened)
      (eqb-true k bound.covers parts.0) (lt_true k (aircraft book) parts.1) many (values_more version book bound cover has) (shown_more version book bound cover has (passed (is_shown_leaf book cover) cover.line fine)) in
      through_ok (cover_kept k v bound) next (Stands book (front ++ lines.Event (events.Cover k v) ∷ [])) stands now) e

  -- a label joins the family of the open leaf
  abbrev with_label : OpenLeaf → Label → OpenLeaf
  with_label leaf label = record leaf { next = label.at; family = leaf.family ++ label ∷ [] }

  label_stands : (label : Label) (section : Section) (leaf : OpenLeaf) → StandsAt version book front section owed (Some leaf) least
      → StandsAt version book (front ++ lines.Event (label_event label) ∷ []) section owed (Some (with_label leaf label)) least
  label_stands label Start leaf (none, no_leaf, no_bound) = absurd (cc no_leaf)
  label_stands label (InLean lean) leaf (told, is, opened, no_leaf) = absurd (cc no_leaf)
  label_stands label (InPlan fliers) leaf (told, is, grows, no_leaf, fleet) = absurd (cc no_leaf)
  label_stands label (Claimed claim) leaf (told, fliers, is, grows, names, judged, no_leaf) = absurd (cc no_leaf)
  label_stands label InTree leaf (told, is, opened) =
      let shape = leaf_more told opened.before (events.Stuck leaf.k ∷ label_events leaf.family) (events.Stuck leaf.k ∷ label_events (leaf.family ++ label ∷ [])) (label_event label) opened.lines_are
      (ap (λ labels. events.Stuck leaf.k ∷ labels) (sym (labels_more leaf.family label))) in (
        told ++ lines.Event (label_event label) ∷ [],
        told_more version book front told (lines.Event (label_event label)) is,
        record { before = opened.before; claims = opened.claims; lines_are = shape; grows = opened.grows },
      )
  label_stands label (InBound bound) leaf (told, is, (has, opened)) =
      let covers = cover_events 0 has.closed in
      let shape = leaf_more told opened.before (events.Bound ∷ (dual_events 0 bound.duals ++ (covers ++ (events.Cover leaf.k has.value ∷ label_events leaf.family))))
      (events.Bound ∷ (dual_events 0 bound.duals ++ (covers ++ (events.Cover leaf.k has.value ∷ label_events (leaf.family ++ label ∷ []))))) (label_event label) opened.lines_are
      (behind_parts events.Bound (dual_events 0 bound.duals) (covers ++ (events.Cover leaf.k has.value ∷ label_events leaf.family)) (label_event label ∷ [])
      ∙ ap (λ rest. events.Bound ∷ (dual_events 0 bound.duals ++ rest))
      (append_assoc covers (events.Cover leaf.k has.value ∷ label_events leaf.family) (label_event label ∷ [])
      ∙ ap (λ labels. covers ++ (events.Cover leaf.k has.value ∷ labels)) (sym (labels_more leaf.family label)))) in (
        told ++ lines.Event (label_event label) ∷ [],
        told_more version book front told (lines.Event (label_event label)) is,
        (
          record { closed = has.closed; value = has.value; claims = has.claims; number = has.number; many = has.many; marks = has.marks; duals = has.duals; values = has.values; shown = has.shown },
          record { before = opened.before; others = opened.others; lines_are = shape; owed_are = opened.owed_are; grows = opened.grows; duals = opened.duals; zeros = opened.zeros },
        ),
      )

  pub label_at : (label : Label) (section : Section) (leaf : Option OpenLeaf) → StandsAt version book front section owed leaf least
      → (next : State) → take_label_in book (kept_by section leaf) label leaf ≡ Ok next → Stands book (front ++ lines.Event (label_event label) ∷ []) next
  label_at label section None h next e = absurd (cc e)
  label_at label section (Some leaf) h next e =
      through_must (nat_le leaf.next label.at && (nat_lt label.at (activities book) && length label.counters == length book.rules.counters)) OutOfPlace (must (is_alive book leaf.marks leaf.k label.at) NotAlive (Ok kept)) P next
      (λ place now. through_must (is_alive book leaf.marks leaf.k label.at) NotAlive (Ok kept) P next
      (λ alive now. through_ok kept next P (label_stands label section leaf h) now) now) e
    where
      P : State → Type 0
      P kept = Stands book (front ++ lines.Event (label_event label) ∷ []) kept

      kept : State
      kept = kept_by section (Some (with_label leaf label))
