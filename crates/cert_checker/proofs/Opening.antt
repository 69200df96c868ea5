-- Which leaf is open behind a line. A label leaves the open leaf the same but for its labels. Behind any other line no leaf is
-- open, or it was opened by that line: a node closes the leaf before it, and so do a plan and a claim, while a dual, a header and
-- a flier stand where no leaf is open.
use Rattle.std.specs.Prelude.{⊤, if◌then◌else◌, not, nat_lt, nat_le, slice_set, ◌+ℤ◌, ◌==◌, ◌&&◌}
use Rattle.std.proofs.Common.{◌≡◌, ◌+◌, ℕ, Bool, true, false, List, [], ◌∷◌, ◌++◌, Option, Some, None, Result, Ok, length, refl, sym, ap, subst, arith}
use Rattle.std.proofs.lemmas.Bool.{eqb-true}
use Rattle.tail_book.specs.Lookup.{activities, aircraft}
use Rattle.tail_book.specs.Seen.{BookSeen}
use Rattle.tail_book.specs.declared.claim.Claim.{Claim}
use Rattle.tail_text.specs.Checks.{look, must}
use Rattle.branch_marks.specs.declared.event.Event.{Event}
use Rattle.branch_marks.specs.declared.event.Event.TheVariants as events
use Rattle.branch_marks.specs.declared.fact.Fact.{Fact}
use Rattle.branch_marks.specs.Branches.{first_branch, second_branch}
use Rattle.branch_marks.specs.ProofTree.{zero_duals}
use Rattle.branch_marks.specs.Undecided.{is_undecided}
use Rattle.branch_marks.specs.FactTests.{has_fact}
use Rattle.branch_marks.specs.FollowingTests.{follows}
use Rattle.branch_marks.specs.MarkTests.{is_fact_of}
use Rattle.branch_marks.specs.TreeTests.{is_hole, is_in_box}
use Rattle.tail_book.specs.CostTable.{costs_of}
use Rattle.cert_lines.specs.declared.cert_line.CertLine.{CertLine}
use Rattle.cert_lines.specs.declared.cert_line.CertLine.TheVariants as lines
use Rattle.cert_checker.specs.Certificate.{asked_of, claimed_cost}
use Rattle.cert_checker.specs.Reasons.{has_claimed_plan, reaches}
use Rattle.cert_checker.specs.Step.{after_leaf, at_node, done_section, is_pair_of, judge_claim, next_owed, owed_with, owes, priced_section, rest_owed}
use Rattle.cert_checker.specs.Step.{take_claim_in, take_cover_in, take_dual_in, take_event, take_fly_in, take_header_in, take_line}
use Rattle.cert_checker.specs.State.{OpenLeaf, State, Section, Start, InTree, InBound, InLean, InPlan, Claimed}
use Rattle.cert_checker.specs.Verdict.{is_dual, is_label, ready_for}
use Rattle.cert_checker.specs.declared.verdict.Reason.{Reason}
use Rattle.cert_checker.specs.declared.verdict.Reason.TheVariants.{BadPlan, KnownFact, NotAlive, NotFollowing, OutOfBox, OutOfPlace, Unfinished, WeakBound}
use Rattle.cert_checker.proofs.Standing.{through_look, through_must, through_ok}

-- no leaf is open before the header, in a plan, and before the first cover of a bound leaf
abbrev pub IsQuiet : Section → Option OpenLeaf → Type 0
IsQuiet Start leaf = leaf ≡ None
IsQuiet InTree leaf = ⊤
IsQuiet (InBound bound) leaf = bound.covers ≡ 0 → leaf ≡ None
IsQuiet (InLean lean) leaf = leaf ≡ None
IsQuiet (InPlan fliers) leaf = leaf ≡ None
IsQuiet (Claimed claim) leaf = ⊤

-- no leaf is open, or the one of the line of this number
abbrev pub IsOf : ℕ → Option OpenLeaf → Type 0
IsOf n None = ⊤
IsOf n (Some leaf) = leaf.line ≡ n

-- what is behind a line of this number that is no label
pub record IsBehind (n : ℕ) (state : State) : Type 0 where
  pub quiet : IsQuiet state.section state.leaf
  pub opened : IsOf n state.leaf

none_of : (n : ℕ) (leaf : Option OpenLeaf) → leaf ≡ None → IsOf n leaf
none_of n leaf e = subst (λ (leaf : Option OpenLeaf). IsOf n leaf) (sym e) tt

and_left : (a b : Bool) → (a && b) ≡ true → a ≡ true
and_left true b e = refl
and_left false b e = absurd (cc e)

-- what is kept where tests pass
pub one_test : (a : Bool) (why : Reason) (kept next : State) → must a why (Ok kept) ≡ Ok next → kept ≡ next
one_test true why kept next e = cc e
one_test false why kept next e = absurd (cc e)

pub two_tests : (a b : Bool) (why other : Reason) (kept next : State) → must a why (must b other (Ok kept)) ≡ Ok next → kept ≡ next
two_tests true b why other kept next e = one_test b other kept next e
two_tests false b why other kept next e = absurd (cc e)

three_tests : (a b c : Bool) (why other third : Reason) (kept next : State) → must a why (must b other (must c third (Ok kept))) ≡ Ok next → kept ≡ next
three_tests true b c why other third kept next e = two_tests b c other third kept next e
three_tests false b c why other third kept next e = absurd (cc e)

-- the last leaf is closed
record IsClosed (n : ℕ) (here : State) : Type 0 where
  lines : here.lines ≡ n
  section : here.section ≡ InTree
  leaf : here.leaf ≡ None

module _ (book : BookSeen) where
  closed : (state here : State) → after_leaf book state ≡ Ok here → IsClosed state.lines here
  closed state here e = by_section state.section e
    where
      by_section : (section : Section) → done_section book state section ≡ Ok here → IsClosed state.lines here
      by_section Start e = absurd (cc e)
      by_section InTree e =
          through_ok (record state { section = InTree; leaf = None }) here (IsClosed state.lines) (record { lines = refl; section = refl; leaf = refl }) e
      by_section (InBound bound) e =
          through_must (bound.covers == aircraft book) OutOfPlace _ (IsClosed state.lines) here
          (λ all given. through_ok _ here (IsClosed state.lines) (record { lines = refl; section = refl; leaf = refl }) given) e
      by_section (InLean lean) e = absurd (cc e)
      by_section (InPlan fliers) e = absurd (cc e)
      by_section (Claimed claim) e = absurd (cc e)

  -- a line of a node stands where the last leaf is closed
  at_closed : (n : ℕ) (P : State → Type 0) (state next : State) (go : State → List Fact → List (List Fact) → Result State Reason)
      → state.lines ≡ n
      → ((here : State) (marks : List Fact) (owed : List (List Fact)) → IsClosed n here → go here marks owed ≡ Ok next → P next)
      → at_node book state go ≡ Ok next → P next
  at_closed n P state next go is given e =
      through_look (after_leaf book state) (λ here. next_owed here.owed (go here)) P next
      (λ here done goes. by_owed here here.owed (subst (λ (n : ℕ). IsClosed n here) is (closed state here done)) goes) e
    where
      by_owed : (here : State) (owed : List (List Fact)) → IsClosed n here → next_owed owed (go here) ≡ Ok next → P next
      by_owed here [] done e = absurd (cc e)
      by_owed here (marks ∷ owed) done e = given here marks owed done e

  in_tree : (n : ℕ) (state : State) → state.section ≡ InTree → IsOf n state.leaf → IsBehind n state
  in_tree n state is opened = record { quiet = subst (λ (section : Section). IsQuiet section state.leaf) (sym is) tt; opened = opened }

  -- behind a line that is no label
  module _ (state next : State) (quiet : IsQuiet state.section state.leaf) where
    abbrev n : ℕ
    n = state.lines + 1

    abbrev P : State → Type 0
    P kept = IsBehind n kept

    event_behind : (event : Event) → is_label (lines.Event event) ≡ false → take_event book state event ≡ Ok next → P next
    event_behind (events.Fact fact) other e =
        at_closed state.lines P state next _ refl
        (λ here marks owed done given.
        let kept : State = record here { owed = (marks ++ fact ∷ []) ∷ owed } in
        subst P (three_tests (is_fact_of book fact) (not (has_fact marks fact)) (follows book marks fact) OutOfPlace KnownFact NotFollowing kept next given)
        (in_tree n kept done.section (none_of n here.leaf done.leaf))) e
    event_behind (events.Split pair) other e =
        at_closed state.lines P state next _ refl
        (λ here marks owed done given.
        let kept : State = record here { owed = (marks ++ first_branch pair ∷ []) ∷ (marks ++ second_branch pair ∷ []) ∷ owed } in
        subst P (two_tests (is_pair_of book pair) (is_undecided book marks pair) OutOfPlace NotAlive kept next given)
        (in_tree n kept done.section (none_of n here.leaf done.leaf))) e
    event_behind (events.Hole a) other e =
        at_closed state.lines P state next _ refl
        (λ here marks owed done given.
        let kept : State = record here { owed = owed } in
        subst P (two_tests (nat_lt a (activities book)) (is_hole book marks a) OutOfPlace NotAlive kept next given)
        (in_tree n kept done.section (none_of n here.leaf done.leaf))) e
    event_behind (events.Stuck k) other e =
        at_closed state.lines P state next _ refl
        (λ here marks owed done given.
        let kept : State = record here {
          owed = owed;
          leaf = Some (record { line = here.lines + 1; k = k; marks = marks; duals = zero_duals book; value = None; next = 0; family = [] });
        } in
        subst P (one_test (nat_lt k (aircraft book)) OutOfPlace kept next given)
        (in_tree n kept done.section (ap (λ (m : ℕ). m + 1) done.lines))) e
    event_behind events.Bound other e =
        at_closed state.lines P state next _ refl
        (λ here marks owed done given.
        through_ok _ next P (record { quiet = λ none. done.leaf; opened = none_of n here.leaf done.leaf }) given) e
    event_behind (events.Dual a dual) other e = by_section state.section quiet e
      where
        by_section : (section : Section) → IsQuiet section state.leaf → take_dual_in book state a dual section ≡ Ok next → P next
        by_section Start calm e = absurd (cc e)
        by_section InTree calm e = absurd (cc e)
        by_section (InBound bound) calm e =
            let kept : State = record state { section = InBound (record bound { duals = slice_set bound.duals a dual; next = a + 1 }) } in
            let placed : Bool = nat_le bound.next a && nat_lt a (activities book) in
            through_must (bound.covers == 0 && placed) OutOfPlace (must (is_in_box (costs_of book) dual) OutOfBox (Ok kept)) P next
            (λ first given.
            let none = calm (eqb-true bound.covers 0 (and_left (bound.covers == 0) placed first)) in
            subst P (one_test (is_in_box (costs_of book) dual) OutOfBox kept next given)
            (record { quiet = λ zero. none; opened = none_of n state.leaf none })) e
        by_section (InLean lean) calm e =
            let kept : State = record state { section = InLean (record lean { duals = slice_set lean.duals a dual; next = a + 1 }) } in
            subst P (two_tests (nat_le lean.next a && nat_lt a (activities book)) (is_in_box (costs_of book) dual) OutOfPlace OutOfBox kept next e)
            (record { quiet = calm; opened = none_of n state.leaf calm })
        by_section (InPlan fliers) calm e = absurd (cc e)
        by_section (Claimed claim) calm e = absurd (cc e)
    event_behind (events.Cover k value) other e = by_section state.section e
      where
        by_section : (section : Section) → take_cover_in book state k value section ≡ Ok next → P next
        by_section Start e = absurd (cc e)
        by_section InTree e = absurd (cc e)
        by_section (InBound bound) e =
            let kept : State = record state {
              section = InBound (record bound { covers = k + 1; values = bound.values +ℤ value });
              owed = owed_with book (k + 1) bound.marks (rest_owed state.owed);
              leaf = Some (record { line = state.lines + 1; k = k; marks = bound.marks; duals = bound.duals; value = Some value; next = 0; family = [] });
            } in
            subst P (one_test (k == bound.covers && nat_lt k (aircraft book)) OutOfPlace kept next e)
            (record { quiet = λ zero. absurd (omega (arith, zero)); opened = refl })
        by_section (InLean lean) e = absurd (cc e)
        by_section (InPlan fliers) e = absurd (cc e)
        by_section (Claimed claim) e = absurd (cc e)
    event_behind (events.Label at weight counters) other e = absurd (cc other)

    judged_behind : (here : State) (fliers : Option (List ℕ)) (claim : Claim) → here.leaf ≡ None → judge_claim book here fliers claim ≡ Ok next → P next
    judged_behind here fliers claim none e =
        let kept : State = record here { section = Claimed claim } in
        subst P (two_tests (has_claimed_plan book fliers (claimed_cost claim)) (reaches (asked_of book claim) here.low) BadPlan WeakBound kept next e)
        (record { quiet = tt; opened = none_of n here.leaf none })

    pub line_behind : (line : CertLine) → is_label line ≡ false → take_line book state line ≡ Ok next → P next
    line_behind (lines.Header version a m c) other e = by_section state.section quiet e
      where
        by_section : (section : Section) → IsQuiet section state.leaf → take_header_in book state version a m c section ≡ Ok next → P next
        by_section Start calm e =
            let kept : State = record state { version = version; section = InTree; owed = [] ∷ [] } in
            subst P (one_test (a == activities book && (m == aircraft book && c == length book.rules.counters)) OutOfPlace kept next e)
            (record { quiet = tt; opened = none_of n state.leaf calm })
        by_section InTree calm e = absurd (cc e)
        by_section (InBound bound) calm e = absurd (cc e)
        by_section (InLean lean) calm e = absurd (cc e)
        by_section (InPlan fliers) calm e = absurd (cc e)
        by_section (Claimed claim) calm e = absurd (cc e)
    line_behind lines.Lean other e =
        at_closed state.lines P state next _ refl
        (λ here marks owed done given.
        through_ok _ next P (record { quiet = done.leaf; opened = none_of n here.leaf done.leaf }) given) e
    line_behind (lines.Event event) other e = event_behind event other e
    line_behind lines.Plan other e =
        let go : State → Result State Reason = λ here. Ok (record here { section = InPlan [] }) in
        through_must (not (owes state.section state.owed)) Unfinished (look (after_leaf book state) go) P next (λ whole given.
        through_look (after_leaf book state) go P next (λ here done given.
        let is = closed state here done in
        through_ok (record here { section = InPlan [] }) next P (record { quiet = is.leaf; opened = none_of n here.leaf is.leaf }) given) given) e
    line_behind (lines.Fly a k) other e = by_section state.section quiet e
      where
        by_section : (section : Section) → IsQuiet section state.leaf → take_fly_in book state a k section ≡ Ok next → P next
        by_section Start calm e = absurd (cc e)
        by_section InTree calm e = absurd (cc e)
        by_section (InBound bound) calm e = absurd (cc e)
        by_section (InLean lean) calm e = absurd (cc e)
        by_section (InPlan fliers) calm e =
            let kept : State = record state { section = InPlan (fliers ++ k ∷ []) } in
            subst P (one_test (a == length fliers && (nat_lt a (activities book) && nat_lt k (aircraft book))) OutOfPlace kept next e)
            (record { quiet = calm; opened = none_of n state.leaf calm })
        by_section (Claimed claim) calm e = absurd (cc e)
    line_behind (lines.Claim claim) other e =
        through_must (not (owes state.section state.owed)) Unfinished (take_claim_in book state claim state.section) P next
        (λ whole given. by_section state.section quiet given) e
      where
        alone : look (after_leaf book state) (λ here. judge_claim book here None claim) ≡ Ok next → P next
        alone e =
            through_look (after_leaf book state) (λ here. judge_claim book here None claim) P next
            (λ here done given. judged_behind here None claim (closed state here done).leaf given) e

        by_section : (section : Section) → IsQuiet section state.leaf → take_claim_in book state claim section ≡ Ok next → P next
        by_section Start calm e = alone e
        by_section InTree calm e = alone e
        by_section (InBound bound) calm e = alone e
        by_section (InLean lean) calm e = alone e
        by_section (InPlan fliers) calm e =
            through_must (length fliers == activities book) OutOfPlace (judge_claim book state (Some fliers) claim) P next
            (λ many given. judged_behind state (Some fliers) claim calm given) e
        by_section (Claimed earlier) calm e = alone e

-- where a lean leaf is priced no leaf is opened
priced_quiet : (book : BookSeen) (state : State) (section : Section) → state.section ≡ section → IsQuiet section state.leaf
    → IsQuiet (priced_section book state section).section (priced_section book state section).leaf
priced_quiet book state Start is quiet = rw is quiet
priced_quiet book state InTree is quiet = rw is quiet
priced_quiet book state (InBound bound) is quiet = rw is quiet
priced_quiet book state (InLean lean) is quiet = tt
priced_quiet book state (InPlan fliers) is quiet = rw is quiet
priced_quiet book state (Claimed claim) is quiet = rw is quiet

pub ready_quiet : (book : BookSeen) (state : State) (line : CertLine) → IsQuiet state.section state.leaf → IsQuiet (ready_for book state line).section (ready_for book state line).leaf
ready_quiet book state line quiet = by_dual (is_dual line)
  where
    here : Bool → State
    here dual = if dual then state else priced_section book state state.section

    by_dual : (dual : Bool) → IsQuiet (here dual).section (here dual).leaf
    by_dual true = quiet
    by_dual false = priced_quiet book state state.section refl quiet
