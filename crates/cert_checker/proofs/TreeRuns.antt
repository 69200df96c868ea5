-- The lines of a tree that is shown pass, from where its place is owed next to where what is behind it is owed. By the
-- tree: a step goes on at the place with one fact more, a split owes its two branches before what is behind, and a leaf
-- passes by its own lines. A bound leaf is the hard case: it is done only at the next line, and then lowers the least
-- bound by one that reaches what is asked.
use Rattle.std.proofs.Common.{◌≡◌, ◌∙◌, ◌+◌, ◌<◌, ◌+ℤ◌, ℕ, ℤ, zero, suc, pos, Bool, true, false, List, [], ◌∷◌, ◌++◌, Option, Some, None, ◌&&◌, ◌==◌, not, nat_le, nat_lt, length, map, refl, sym, ap, subst, arith, replicate}
use Rattle.std.proofs.lemmas.Bool.{and_parts, eqb-true}
use Rattle.std.proofs.lemmas.Int.{ints}
use Rattle.std.proofs.lemmas.List.{map-append}
use Rattle.std.specs.List.{list_all}
use Rattle.std.specs.Prelude.{if◌then◌else◌, slice_set}
use Rattle.tail_book.specs.Lookup.{activities, aircraft}
use Rattle.tail_book.specs.Seen.{BookSeen}
use Rattle.tail_book.specs.CostTable.{costs_of}
use Rattle.tail_book.specs.Sums.{total}
use Rattle.branch_marks.specs.Bound.{rounded_up}
use Rattle.branch_marks.specs.Labels.{Label}
use Rattle.branch_marks.specs.Branches.{first_branch, second_branch}
use Rattle.branch_marks.specs.ProofTree.{Cover, Tree, Step, Split, Hole, Stuck, Bounded, cover_of, leaf_bound, zero_duals}
use Rattle.branch_marks.specs.declared.event.Event.TheVariants as events
use Rattle.branch_marks.specs.declared.fact.Fact.{Fact}
use Rattle.branch_marks.specs.declared.fact.Pair.{Pair}
use Rattle.branch_marks.specs.Below.{all_below}
use Rattle.branch_marks.specs.Undecided.{is_undecided}
use Rattle.branch_marks.specs.FactTests.{has_fact}
use Rattle.branch_marks.specs.FollowingTests.{follows}
use Rattle.branch_marks.specs.MarkTests.{is_alive, is_fact_of}
use Rattle.branch_marks.specs.FamilyTests.{has_no_end}
use Rattle.branch_marks.specs.TreeTests.{are_duals, bounds_at_least, is_hole, is_in_box, is_shown, is_shown_cover, is_shown_family, is_shown_stuck}
use Rattle.cert_lines.specs.declared.cert_line.CertLine.{CertLine}
use Rattle.cert_lines.specs.declared.cert_line.CertLine.TheVariants as lines
use Rattle.cert_checker.specs.LeanTree.{LeanTree, Told, tree_lines}
use Rattle.cert_checker.specs.LeanTree as lean
use Rattle.cert_checker.specs.LeastWeight.{lean_bound}
use Rattle.cert_checker.specs.Step.{bound_of_leaf, is_pair_of, lower, lower_by, owed_with, owes, priced, take_dual_in, take_line}
use Rattle.cert_checker.specs.Reasons.{reaches}
use Rattle.cert_checker.specs.State.{BoundLeaf, OpenLeaf, State, Section, InTree, InBound, InLean}
use Rattle.branch_marks.specs.TreeEvents.{cover_events, dual_events, label_events, tree_events}
use Rattle.cert_checker.specs.Verdict.{is_of_version, leaf_fails}
use Rattle.cert_checker.proofs.LeanTests.{bounds_in, is_shown_in}
use Rattle.cert_checker.proofs.LeafRuns.{same_number, CoversFit, bound_with, covers_pass, duals_pass, kept_in, labels_fit, labels_pass}
use Rattle.cert_checker.proofs.Running.{IsBetween, IsKept, Passes, one_passes, passes_then, plain_between}
use Rattle.cert_checker.proofs.Taking.{not_false}
use Rattle.cert_checker.proofs.Standing.{by_place, plain}

both : (a b : Bool) → a ≡ true → b ≡ true → (a && b) ≡ true
both a b p q = rw (p, q) refl

-- what is reached with one bound more
reached_both : (asked least bound : ℕ) (test : Bool) → nat_le least bound ≡ test → nat_le asked least ≡ true → nat_le asked bound ≡ true → nat_le asked (if test then least else bound) ≡ true
reached_both asked least bound true e one other = one
reached_both asked least bound false e one other = other

reaches_with : (asked bound : ℕ) (least : Option ℕ) → reaches asked least ≡ true → nat_le asked bound ≡ true → reaches asked (lower least bound) ≡ true
reaches_with asked bound None one other = other
reaches_with asked bound (Some least) one other = reached_both asked least bound (nat_le least bound) refl one other

reaches_with_any : (asked : ℕ) (bound least : Option ℕ) → reaches asked least ≡ true → reaches asked bound ≡ true → reaches asked (lower_by least bound) ≡ true
reaches_with_any asked None least one other = one
reaches_with_any asked (Some bound) least one other = reaches_with asked bound least one other

owes_alike : (bound : BoundLeaf) (owed : List (List Fact)) → owes (InBound bound) owed ≡ owes InTree owed
owes_alike bound [] = refl
owes_alike bound (marks ∷ owed) = refl

passed_if : (test : Bool) (n : ℕ) → test ≡ true → (if test then None else Some n) ≡ None
passed_if test n e = rw e refl

zero_and : (z : ℤ) → (pos 0 +ℤ z) ≡ z
zero_and z = omega (arith, ints)

-- the tests below a number, one by one
below_one : (test : ℕ → Bool) (n j : ℕ) → all_below test n ≡ true → j < n → test j ≡ true
below_one test zero j e lt = absurd (omega (arith, lt))
below_one test (suc n) j e lt =
    let parts = and_parts (test n) (all_below test n) e in
    by_place j n (λ less. below_one test n j parts.1 less) (λ behind. let here : j ≡ n = omega (arith, lt, behind) in rw here parts.0)

module _ (version : ℕ) (book : BookSeen)
    (of_book : (marks : List Fact) (k a : ℕ) → is_alive book marks k a ≡ true → a < activities book)
    (facts_of : (marks : List Fact) (fact : Fact) → follows book marks fact ≡ true → is_fact_of book fact ≡ true)
    (pairs_of : (marks : List Fact) (pair : Pair) → is_undecided book marks pair ≡ true → is_pair_of book pair ≡ true) where
  -- covers, one by one
  covers_fit : (marks : List Fact) (duals : List ℤ) (k : ℕ) (covers : List Cover) → ((j : ℕ) → j < length covers → is_shown_cover (costs_of book) book marks (k + j) duals (cover_of covers j) ≡ true) → CoversFit version book of_book marks duals k covers
  covers_fit marks duals k [] shown = tt
  covers_fit marks duals k (cover ∷ covers) shown =
      let here : k + 0 ≡ k = omega arith in (
        subst (λ (i : ℕ). is_shown_cover (costs_of book) book marks i duals cover ≡ true) here (shown 0 (omega arith)),
        covers_fit marks duals (k + 1) covers (λ j lt.
            let next : k + suc j ≡ k + 1 + j = omega arith in
            subst (λ (i : ℕ). is_shown_cover (costs_of book) book marks i duals (cover_of covers j) ≡ true) next (shown (suc j) (omega (arith, lt)))),
      )

  -- lines of a tree pass, and what is owed behind them is owed then, with the bounds that they bring
  abbrev LinesPass : List CertLine → (ℕ → Bool) → State → List (List Fact) → Option ℕ → Type 0
  LinesPass all bounds state owed least =
      (after : State) × (lowest : Option ℕ) × Passes book state all after × IsBetween version book after owed lowest
      × ((asked : ℕ) → reaches asked least ≡ true → bounds asked ≡ true → reaches asked lowest ≡ true)

  abbrev pub TreePasses : LeanTree → List Fact → State → List (List Fact) → Option ℕ → Type 0
  TreePasses tree marks state owed least = LinesPass (tree_lines tree) (λ asked. bounds_in book asked marks tree) state owed least

  step_passes : (fact : Fact) (tree : LeanTree) (marks : List Fact) (owed : List (List Fact)) (least : Option ℕ) (state : State) → IsBetween version book state (marks ∷ owed) least
      → has_fact marks fact ≡ false → follows book marks fact ≡ true
      → ((n : ℕ) → TreePasses tree (marks ++ fact ∷ []) (plain version n ((marks ++ fact ∷ []) ∷ owed) least) owed least) → TreePasses (lean.Step fact tree) marks state owed least
  step_passes fact tree marks owed least state between new follow rest =
      let next : State = plain version state.lines ((marks ++ fact ∷ []) ∷ owed) least in
      let taken : IsKept (take_line book (priced book state) (lines.Event (events.Fact fact))) next = rw (between.done, facts_of marks fact follow, new, follow) refl in
      let one = one_passes book state next (lines.Event (events.Fact fact)) refl refl between.fine taken in
      let (after, lowest, passes, end, bounds) = rest (state.lines + 1) in
      (after, lowest, passes_then book (lines.Event (events.Fact fact) ∷ []) (tree_lines tree) state (plain version (state.lines + 1) ((marks ++ fact ∷ []) ∷ owed) least) after one passes, end, bounds)

  hole_passes : (a : ℕ) (marks : List Fact) (owed : List (List Fact)) (least : Option ℕ) (state : State) → IsBetween version book state (marks ∷ owed) least → is_hole book marks a ≡ true
      → TreePasses (Told (Hole a)) marks state owed least
  hole_passes a marks owed least state between hole =
      let parts = and_parts (nat_lt a (activities book)) (all_below (λ k. not (is_alive book marks k a)) (aircraft book)) hole in
      let taken : IsKept (take_line book (priced book state) (lines.Event (events.Hole a))) (plain version state.lines owed least) = rw (between.done, parts.0, parts.1) refl in (
        plain version (state.lines + 1) owed least,
        least,
        one_passes book state (plain version state.lines owed least) (lines.Event (events.Hole a)) refl refl between.fine taken,
        plain_between version book (state.lines + 1) owed least,
        λ asked reached bound. reached,
      )

  split_passes : (pair : Pair) (one other : LeanTree) (marks : List Fact) (owed : List (List Fact)) (least : Option ℕ) (state : State) → IsBetween version book state (marks ∷ owed) least → is_undecided book marks pair ≡ true
      → ((n : ℕ) → TreePasses one (marks ++ first_branch pair ∷ []) (plain version n ((marks ++ first_branch pair ∷ []) ∷ (marks ++ second_branch pair ∷ []) ∷ owed) least) ((marks ++ second_branch pair ∷ []) ∷ owed) least)
      → ((middle : State) (lower : Option ℕ) → IsBetween version book middle ((marks ++ second_branch pair ∷ []) ∷ owed) lower → TreePasses other (marks ++ second_branch pair ∷ []) middle owed lower)
      → TreePasses (lean.Split pair one other) marks state owed least
  split_passes pair one other marks owed least state between undecided first second =
      let next : State = plain version state.lines ((marks ++ first_branch pair ∷ []) ∷ (marks ++ second_branch pair ∷ []) ∷ owed) least in
      let taken : IsKept (take_line book (priced book state) (lines.Event (events.Split pair))) next = rw (between.done, pairs_of marks pair undecided, undecided) refl in
      let begins = one_passes book state next (lines.Event (events.Split pair)) refl refl between.fine taken in
      let (middle, lower, passes, end, bounds) = first (state.lines + 1) in
      let (after, lowest, more, ends, others) = second middle lower end in
      let start : State = plain version (state.lines + 1) ((marks ++ first_branch pair ∷ []) ∷ (marks ++ second_branch pair ∷ []) ∷ owed) least in
      let both_trees = passes_then book (tree_lines one) (tree_lines other) start middle after passes more in (
        after,
        lowest,
        passes_then book (lines.Event (events.Split pair) ∷ []) (tree_lines one ++ tree_lines other) state start after begins both_trees,
        ends,
        λ asked reached bound. let parts = and_parts (bounds_in book asked (marks ++ first_branch pair ∷ []) one) (bounds_in book asked (marks ++ second_branch pair ∷ []) other) bound in
            others asked (bounds asked reached parts.0) parts.1,
      )

  stuck_passes : (k : ℕ) (family : List Label) (marks : List Fact) (owed : List (List Fact)) (least : Option ℕ) (state : State) → IsBetween version book state (marks ∷ owed) least
      → is_shown_stuck (costs_of book) book marks k family ≡ true → TreePasses (Told (Stuck k family)) marks state owed least
  stuck_passes k family marks owed least state between shown =
      let parts = and_parts (nat_lt k (aircraft book)) (is_shown_family (costs_of book) book marks k (zero_duals book) family && has_no_end marks k family) shown in
      let fit = and_parts (is_shown_family (costs_of book) book marks k (zero_duals book) family) (has_no_end marks k family) parts.1 in
      let opened : OpenLeaf = record { line = state.lines + 1; k = k; marks = marks; duals = zero_duals book; value = None; next = 0; family = [] } in
      let taken : IsKept (take_line book (priced book state) (lines.Event (events.Stuck k))) (kept_in version state.lines InTree owed (Some opened) least) = rw (between.done, parts.0) refl in
      let one = one_passes book state (kept_in version state.lines InTree owed (Some opened) least) (lines.Event (events.Stuck k)) refl refl between.fine taken in
      let (m, at, labels) = labels_pass version book of_book family (state.lines + 1) InTree (λ state. refl) owed least opened (labels_fit book marks k (zero_duals book) family fit.0) in
      let after : State = kept_in version m InTree owed (Some (record opened { next = at; family = family })) least in
      let all = passes_then book (lines.Event (events.Stuck k) ∷ []) (map lines.Event (label_events family)) state (kept_in version (state.lines + 1) InTree owed (Some opened) least) after one labels in
      let fine : leaf_fails book after.leaf ≡ None = passed_if (is_shown_stuck (costs_of book) book marks k family) (state.lines + 1) shown in
      (after, least, all, record { told = refl; fine = fine; done = refl; owing = refl }, λ asked reached bound. reached)

  -- a bound leaf bounds by its duals and covers
  bound_same : (bound : BoundLeaf) (covers : List Cover) → bound.values ≡ (pos 0 +ℤ total (map (λ (cover : Cover). cover.value) covers)) → bound_of_leaf bound ≡ leaf_bound bound.duals covers
  bound_same bound covers is = ap (λ (sum : ℤ). rounded_up (total bound.duals +ℤ sum)) (is ∙ zero_and (total (map (λ (cover : Cover). cover.value) covers)))

  -- a bound leaf with all its covers is done
  bound_between : (n : ℕ) (bound : BoundLeaf) (left owed : List (List Fact)) (last : Option OpenLeaf) (least : Option ℕ) → (bound.covers == aircraft book) ≡ true → leaf_fails book last ≡ None → left ≡ owed
      → IsBetween version book (kept_in version n (InBound bound) left last least) owed (lower least (bound_of_leaf bound))
  bound_between n bound left owed last least full fine left_is = record { told = refl; fine = fine; done = rw (full, left_is) refl; owing = rw left_is (owes_alike bound owed) }

  -- the duals of a bound leaf and of a lean one
  abbrev in_bound : List Fact → List ℤ → ℕ → Section
  in_bound marks duals next = bound_with version book of_book marks duals next 0 (pos 0)

  abbrev in_lean : List Fact → List ℤ → ℕ → Section
  in_lean marks duals next = InLean (record { marks = marks; duals = duals; next = next })

  module _ (duals : List ℤ) (marks : List Fact) (owed : List (List Fact)) (least : Option ℕ) (in_box : are_duals (costs_of book) book duals ≡ true) where
    many : length duals ≡ activities book
    many = eqb-true (length duals) (activities book) (and_parts (length duals == activities book) (list_all (is_in_box (costs_of book)) duals) in_box).0

    boxed : list_all (is_in_box (costs_of book)) duals ≡ true
    boxed = (and_parts (length duals == activities book) (list_all (is_in_box (costs_of book)) duals) in_box).1

    abbrev HasDuals : (List ℤ → ℕ → Section) → ℕ → Type 0
    HasDuals in_leaf n =
        (m next : ℕ) × Passes book (kept_in version n (in_leaf (zero_duals book) 0) owed None least) (map lines.Event (dual_events 0 duals)) (kept_in version m (in_leaf duals next) owed None least)

    leaf_duals : (in_leaf : List ℤ → ℕ → Section)
        → ((n : ℕ) (duals : List ℤ) (next a : ℕ) (v : ℤ) → nat_le next a ≡ true → nat_lt a (activities book) ≡ true → is_in_box (costs_of book) v ≡ true
        → IsKept (take_dual_in book (kept_in version n (in_leaf duals next) owed None least) a v (in_leaf duals next)) (kept_in version n (in_leaf (slice_set duals a v) (a + 1)) owed None least))
        → (n : ℕ) → HasDuals in_leaf n
    leaf_duals in_leaf takes n =
        let (m, next, now, now_is, told) = duals_pass version book of_book in_leaf owed least takes duals 0 n 0 [] (zero_duals book) refl (ap (λ n. replicate n (pos 0)) (sym many)) (omega arith) (omega (arith, many)) boxed in
        let start : State = kept_in version n (in_leaf (zero_duals book) 0) owed None least in
        (m, next, subst (λ (duals_now : List ℤ). Passes book start (map lines.Event (dual_events 0 duals)) (kept_in version m (in_leaf duals_now next) owed None least)) now_is told)

    bound_duals : (n : ℕ) → HasDuals (in_bound marks) n
    bound_duals n = leaf_duals (in_bound marks) (λ n duals next a v from few boxed. rw (from, few, boxed) refl) n

    lean_duals : (n : ℕ) → HasDuals (in_lean marks) n
    lean_duals n = leaf_duals (in_lean marks) (λ n duals next a v from few boxed. rw (from, few, boxed) refl) n

  bounded_passes : (duals : List ℤ) (covers : List Cover) (marks : List Fact) (owed : List (List Fact)) (least : Option ℕ) (state : State) → IsBetween version book state (marks ∷ owed) least
      → is_shown (costs_of book) book marks (Bounded duals covers) ≡ true → TreePasses (Told (Bounded duals covers)) marks state owed least
  bounded_passes duals covers marks owed least state between shown =
      let parts = and_parts (are_duals (costs_of book) book duals) (length covers == aircraft book && all_below each (aircraft book)) shown in
      let fits = and_parts (length covers == aircraft book) (all_below each (aircraft book)) parts.1 in
      let fleet = eqb-true (length covers) (aircraft book) fits.0 in
      let owed_now : List (List Fact) = owed_with book 0 marks owed in
      let begun : ℕ → List ℤ → ℕ → State = λ n duals next. kept_in version n (in_bound marks duals next) owed_now None least in
      let taken : IsKept (take_line book (priced book state) (lines.Event events.Bound)) (begun state.lines (zero_duals book) 0) = rw between.done refl in
      let one = one_passes book state (begun state.lines (zero_duals book) 0) (lines.Event events.Bound) refl refl between.fine taken in
      let (m, next, told) = bound_duals duals marks owed_now least parts.0 (state.lines + 1) in
      let fit = covers_fit marks duals 0 covers (λ j lt.
      let same : j ≡ 0 + j = omega arith in
      subst (λ (i : ℕ). is_shown_cover (costs_of book) book marks i duals (cover_of covers j) ≡ true) same (below_one each (aircraft book) j fits.1 (omega (arith, fleet, lt)))) in
      let (last_line, sum, last, left, sum_is, fine, left_is, covered) = covers_pass version book of_book marks duals next owed least covers 0 m (pos 0) owed_now None refl fit (omega (arith, fleet)) refl in
      let bound : BoundLeaf = record { marks = marks; duals = duals; next = next; covers = aircraft book; values = sum } in
      let after : State = kept_in version last_line (InBound bound) left last least in
      let inner = passes_then book (map lines.Event (dual_events 0 duals)) (map lines.Event (cover_events 0 covers)) (begun (state.lines + 1) (zero_duals book) 0) (begun m duals next) after told covered in
      let all = passes_then book (lines.Event events.Bound ∷ []) (map lines.Event (dual_events 0 duals) ++ map lines.Event (cover_events 0 covers)) state (begun (state.lines + 1) (zero_duals book) 0) after one inner in
      let spelled : tree_lines (Told (Bounded duals covers)) ≡ lines.Event events.Bound ∷ (map lines.Event (dual_events 0 duals) ++ map lines.Event (cover_events 0 covers)) =
      ap (λ rest. lines.Event events.Bound ∷ rest) (map-append lines.Event (dual_events 0 duals) (cover_events 0 covers)) in
      let same : bound_of_leaf bound ≡ leaf_bound duals covers = bound_same bound covers sum_is in (
        after,
        lower least (bound_of_leaf bound),
        subst (λ (all : List CertLine). Passes book state all after) (sym spelled) all,
        bound_between last_line bound left owed last least (same_number (aircraft book)) fine left_is,
        λ asked reached enough. reaches_with asked (bound_of_leaf bound) least reached (rw same enough),
      )
    where
      each : ℕ → Bool
      each k = is_shown_cover (costs_of book) book marks k duals (cover_of covers k)

  -- a lean leaf is priced before the next line
  lean_passes : (duals : List ℤ) (marks : List Fact) (owed : List (List Fact)) (least : Option ℕ) (state : State) → IsBetween version book state (marks ∷ owed) least
      → is_shown_in version book marks (lean.Lean duals) ≡ true → TreePasses (lean.Lean duals) marks state owed least
  lean_passes duals marks owed least state between shown =
      let parts = and_parts (version == 2) (are_duals (costs_of book) book duals) shown in
      let may : is_of_version state.version lines.Lean ≡ true = rw between.told parts.0 in
      let begun : ℕ → List ℤ → ℕ → State = λ n duals next. kept_in version n (in_lean marks duals next) owed None least in
      let taken : IsKept (take_line book (priced book state) lines.Lean) (begun state.lines (zero_duals book) 0) = rw between.done refl in
      let one = one_passes book state (begun state.lines (zero_duals book) 0) lines.Lean refl may between.fine taken in
      let (m, next, told) = lean_duals duals marks owed least parts.1 (state.lines + 1) in
      let bound : Option ℕ = lean_bound book marks duals in (
        begun m duals next,
        lower_by least bound,
        passes_then book (lines.Lean ∷ []) (map lines.Event (dual_events 0 duals)) state (begun (state.lines + 1) (zero_duals book) 0) (begun m duals next) one told,
        record { told = refl; fine = refl; done = refl; owing = refl },
        λ asked reached enough. reaches_with_any asked bound least reached enough,
      )

  whole_passes : (tree : Tree) (marks : List Fact) (owed : List (List Fact)) (least : Option ℕ) (state : State) → IsBetween version book state (marks ∷ owed) least
      → is_shown (costs_of book) book marks tree ≡ true → TreePasses (Told tree) marks state owed least
  whole_passes (Step fact tree) marks owed least state between shown =
      let parts = and_parts (not (has_fact marks fact)) (follows book marks fact && is_shown (costs_of book) book (marks ++ fact ∷ []) tree) shown in
      let rest = and_parts (follows book marks fact) (is_shown (costs_of book) book (marks ++ fact ∷ []) tree) parts.1 in
      step_passes fact (Told tree) marks owed least state between (not_false (has_fact marks fact) parts.0) rest.0
      (λ n. whole_passes tree (marks ++ fact ∷ []) owed least (plain version n ((marks ++ fact ∷ []) ∷ owed) least) (plain_between version book n ((marks ++ fact ∷ []) ∷ owed) least) rest.1)
  whole_passes (Split pair one other) marks owed least state between shown =
      let parts = and_parts (is_undecided book marks pair) (is_shown (costs_of book) book (marks ++ first_branch pair ∷ []) one && is_shown (costs_of book) book (marks ++ second_branch pair ∷ []) other) shown in
      let trees = and_parts (is_shown (costs_of book) book (marks ++ first_branch pair ∷ []) one) (is_shown (costs_of book) book (marks ++ second_branch pair ∷ []) other) parts.1 in
      let passes = split_passes pair (Told one) (Told other) marks owed least state between parts.0
      (λ n. whole_passes one (marks ++ first_branch pair ∷ []) ((marks ++ second_branch pair ∷ []) ∷ owed) least (plain version n ((marks ++ first_branch pair ∷ []) ∷ (marks ++ second_branch pair ∷ []) ∷ owed) least)
      (plain_between version book n ((marks ++ first_branch pair ∷ []) ∷ (marks ++ second_branch pair ∷ []) ∷ owed) least) trees.0)
      (λ middle lower end. whole_passes other (marks ++ second_branch pair ∷ []) owed lower middle end trees.1) in
      let spelled : tree_lines (lean.Split pair (Told one) (Told other)) ≡ tree_lines (Told (Split pair one other)) =
      ap (λ rest. lines.Event (events.Split pair) ∷ rest) (sym (map-append lines.Event (tree_events one) (tree_events other))) in
      subst (λ (all : List CertLine). LinesPass all (λ asked. bounds_at_least asked (Split pair one other)) state owed least) spelled passes
  whole_passes (Hole a) marks owed least state between shown = hole_passes a marks owed least state between shown
  whole_passes (Stuck k family) marks owed least state between shown = stuck_passes k family marks owed least state between shown
  whole_passes (Bounded duals covers) marks owed least state between shown = bounded_passes duals covers marks owed least state between shown

  pub tree_passes : (tree : LeanTree) (marks : List Fact) (owed : List (List Fact)) (least : Option ℕ) (state : State) → IsBetween version book state (marks ∷ owed) least
      → is_shown_in version book marks tree ≡ true → TreePasses tree marks state owed least
  tree_passes (lean.Told tree) marks owed least state between shown = whole_passes tree marks owed least state between shown
  tree_passes (lean.Step fact tree) marks owed least state between shown =
      let parts = and_parts (not (has_fact marks fact)) (follows book marks fact && is_shown_in version book (marks ++ fact ∷ []) tree) shown in
      let rest = and_parts (follows book marks fact) (is_shown_in version book (marks ++ fact ∷ []) tree) parts.1 in
      step_passes fact tree marks owed least state between (not_false (has_fact marks fact) parts.0) rest.0
      (λ n. tree_passes tree (marks ++ fact ∷ []) owed least (plain version n ((marks ++ fact ∷ []) ∷ owed) least) (plain_between version book n ((marks ++ fact ∷ []) ∷ owed) least) rest.1)
  tree_passes (lean.Split pair one other) marks owed least state between shown =
      let parts = and_parts (is_undecided book marks pair) (is_shown_in version book (marks ++ first_branch pair ∷ []) one && is_shown_in version book (marks ++ second_branch pair ∷ []) other) shown in
      let trees = and_parts (is_shown_in version book (marks ++ first_branch pair ∷ []) one) (is_shown_in version book (marks ++ second_branch pair ∷ []) other) parts.1 in
      split_passes pair one other marks owed least state between parts.0
      (λ n. tree_passes one (marks ++ first_branch pair ∷ []) ((marks ++ second_branch pair ∷ []) ∷ owed) least (plain version n ((marks ++ first_branch pair ∷ []) ∷ (marks ++ second_branch pair ∷ []) ∷ owed) least)
      (plain_between version book n ((marks ++ first_branch pair ∷ []) ∷ (marks ++ second_branch pair ∷ []) ∷ owed) least) trees.0)
      (λ middle lower end. tree_passes other (marks ++ second_branch pair ∷ []) owed lower middle end trees.1)
  tree_passes (lean.Lean duals) marks owed least state between shown = lean_passes duals marks owed least state between shown
