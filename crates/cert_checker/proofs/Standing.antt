-- What the checker keeps says what came before: the lines so far are those of a certificate whose tree has places left. Each line
-- that is taken keeps it so.
use Rattle.std.proofs.Common.{◌≡◌, ◌∙◌, ◌+◌, ◌<◌, ◌≤◌, ◌+ℤ◌, ℕ, ℤ, zero, suc, pos, Bool, true, false, List, [], ◌∷◌, ◌++◌, Option, Some, None, Result, Ok, Err, ◌==◌, nat_lt, length, get_or, map, refl, sym, subst, arith, length-append}
use Rattle.std.proofs.lemmas.Bool.{eqb-true}
use Rattle.std.proofs.lemmas.Bool.Decides.{nat_tests}
use Rattle.std.proofs.lemmas.Int.{ints}
use Rattle.std.proofs.lemmas.List.{get_or_append_left}
use Rattle.std.specs.Prelude.{⊤, All, if◌then◌else◌}
use Rattle.tail_book.specs.Lookup.{activities, aircraft}
use Rattle.tail_book.specs.Seen.{BookSeen}
use Rattle.tail_book.specs.declared.claim.Claim.{Claim}
use Rattle.tail_book.specs.CostTable.{costs_of}
use Rattle.tail_book.specs.Sums.{total}
use Rattle.tail_text.specs.Checks.{look, must}
use Rattle.branch_marks.specs.ProofTree.{Cover, cover_of}
use Rattle.branch_marks.specs.ProofTree as whole
use Rattle.branch_marks.specs.declared.event.Event.{Event}
use Rattle.branch_marks.specs.declared.event.Event.TheVariants as events
use Rattle.branch_marks.specs.declared.fact.Fact.{Fact}
use Rattle.branch_marks.specs.Below.{all_below}
use Rattle.branch_marks.specs.TreeTests.{are_duals, is_shown_cover, is_shown_stuck}
use Rattle.cert_lines.specs.declared.cert_line.CertLine.{CertLine}
use Rattle.cert_lines.specs.declared.cert_line.CertLine.TheVariants as lines
use Rattle.cert_lines.specs.PlanLines.{plan_lines}
use Rattle.cert_checker.specs.Certificate.{asked_of, claimed_cost, header_of}
use Rattle.cert_checker.specs.LeanTree as grown
use Rattle.cert_checker.specs.LeastWeight.{lean_bound}
use Rattle.cert_checker.specs.Step.{after_leaf, bound_of_leaf, done_section, lower, lower_by, owed_with, priced_section}
use Rattle.cert_checker.specs.Reasons.{has_claimed_plan, is_shown_leaf, reaches, shows}
use Rattle.cert_checker.specs.State.{BoundLeaf, LeanLeaf, OpenLeaf, State, Section, Start, InTree, InBound, InLean, InPlan, Claimed}
use Rattle.branch_marks.specs.TreeEvents.{cover_event, cover_events, dual_events, label_events}
use Rattle.cert_checker.specs.Verdict.{is_dual, leaf_fails, ready_for}
use Rattle.cert_checker.specs.declared.verdict.Reason.{Reason}
use Rattle.cert_checker.specs.declared.verdict.Reason.TheVariants.{OutOfPlace}
use Rattle.cert_checker.proofs.Duals.{AreZeroFrom, one_cover_more}
use Rattle.cert_checker.proofs.Growing.{Grows, grows_leaf, reaches_lower, reaches_lower_by}

-- the header, and the lines so far
abbrev pub tree_front : ℕ → BookSeen → List CertLine → List CertLine
tree_front version book told = header_of version book ∷ told

-- a stuck leaf is open: a tree with this leaf at the first place grows from what came before it
pub record IsStuckOpen (version : ℕ) (book : BookSeen) (told : List CertLine) (owed : List (List Fact)) (least : Option ℕ) (leaf : OpenLeaf) : Type 0 where
  pub before : List CertLine
  pub claims : leaf.value ≡ None
  pub lines_are : told ≡ before ++ map lines.Event (events.Stuck leaf.k ∷ label_events leaf.family)
  pub grows : Grows version book before (leaf.marks ∷ owed) least

-- a bound leaf is open, and so much of its covers was told
pub record IsBoundOpen (version : ℕ) (book : BookSeen) (told : List CertLine) (owed : List (List Fact)) (least : Option ℕ) (leaf : BoundLeaf) (part : List Event) : Type 0 where
  pub before : List CertLine
  pub others : List (List Fact)
  pub lines_are : told ≡ before ++ map lines.Event (events.Bound ∷ (dual_events 0 leaf.duals ++ part))
  pub owed_are : owed ≡ owed_with book leaf.covers leaf.marks others
  pub grows : Grows version book before (leaf.marks ∷ others) least
  pub duals : are_duals (costs_of book) book leaf.duals ≡ true
  pub zeros : AreZeroFrom leaf.next leaf.duals

-- a lean leaf is open
pub record IsLeanOpen (version : ℕ) (book : BookSeen) (told : List CertLine) (owed : List (List Fact)) (least : Option ℕ) (leaf : LeanLeaf) : Type 0 where
  pub before : List CertLine
  pub lines_are : told ≡ before ++ (lines.Lean ∷ map lines.Event (dual_events 0 leaf.duals))
  pub grows : Grows version book before (leaf.marks ∷ owed) least
  pub duals : are_duals (costs_of book) book leaf.duals ≡ true
  pub zeros : AreZeroFrom leaf.next leaf.duals
  pub second : version ≡ 2

-- the covers of a bound leaf: those before the open one are shown
pub record HasCovers (book : BookSeen) (leaf : BoundLeaf) (cover : OpenLeaf) : Type 0 where
  pub closed : List Cover
  pub value : ℤ
  pub claims : cover.value ≡ Some value
  pub number : cover.k ≡ length closed
  pub many : leaf.covers ≡ length closed + 1
  pub marks : cover.marks ≡ leaf.marks
  pub duals : cover.duals ≡ leaf.duals
  pub values : leaf.values ≡ (total (map (λ (cover : Cover). cover.value) closed) +ℤ value)
  pub shown : (j : ℕ) → j < length closed → is_shown_cover (costs_of book) book leaf.marks j leaf.duals (cover_of closed j) ≡ true

abbrev pub open_cover : OpenLeaf → ℤ → Cover
open_cover leaf value = record { value = value; family = leaf.family }

abbrev pub InTreeAt : ℕ → BookSeen → List CertLine → List (List Fact) → Option ℕ → Option OpenLeaf → Type 0
InTreeAt version book told owed least None = Grows version book told owed least
InTreeAt version book told owed least (Some leaf) = IsStuckOpen version book told owed least leaf

abbrev pub InBoundAt : ℕ → BookSeen → List CertLine → List (List Fact) → Option ℕ → BoundLeaf → Option OpenLeaf → Type 0
InBoundAt version book told owed least leaf None = IsBoundOpen version book told owed least leaf [] × (leaf.covers ≡ 0) × (leaf.values ≡ pos 0)
InBoundAt version book told owed least leaf (Some cover) =
    (has : HasCovers book leaf cover) × IsBoundOpen version book told owed least leaf (cover_events 0 has.closed ++ cover_event cover.k (open_cover cover has.value))

-- the claim fits the plan, which names a flier for each activity of the book, and the bounds
pub record IsJudged (book : BookSeen) (least : Option ℕ) (fliers : Option (List ℕ)) (claim : Claim) : Type 0 where
  pub plan : has_claimed_plan book fliers (claimed_cost claim) ≡ true
  pub reached : reaches (asked_of book claim) least ≡ true

abbrev pub NamesEach : BookSeen → Option (List ℕ) → Type 0
NamesEach book None = ⊤
NamesEach book (Some fliers) = (length fliers ≡ activities book) × All (λ k. k < aircraft book) fliers

-- what is kept says what came before
abbrev pub StandsAt : ℕ → BookSeen → List CertLine → Section → List (List Fact) → Option OpenLeaf → Option ℕ → Type 0
StandsAt version book front Start owed leaf least = (front ≡ []) × (leaf ≡ None) × (least ≡ None)
StandsAt version book front InTree owed leaf least = (told : List CertLine) × (front ≡ tree_front version book told) × InTreeAt version book told owed least leaf
StandsAt version book front (InBound bound) owed leaf least = (told : List CertLine) × (front ≡ tree_front version book told) × InBoundAt version book told owed least bound leaf
StandsAt version book front (InLean lean) owed leaf least = (told : List CertLine) × (front ≡ tree_front version book told) × IsLeanOpen version book told owed least lean × (leaf ≡ None)
StandsAt version book front (InPlan fliers) owed leaf least =
    (told : List CertLine) × (front ≡ tree_front version book told ++ plan_lines (Some fliers)) × Grows version book told [] least × (leaf ≡ None) × All (λ k. k < aircraft book) fliers
StandsAt version book front (Claimed claim) owed leaf least =
    (told : List CertLine) × (fliers : Option (List ℕ)) × (front ≡ tree_front version book told ++ (plan_lines fliers ++ lines.Claim claim ∷ []))
    × Grows version book told [] least × NamesEach book fliers × IsJudged book least fliers claim × (leaf ≡ None)

abbrev pub Stands : BookSeen → List CertLine → State → Type 0
Stands book front state = StandsAt state.version book front state.section state.owed state.leaf state.low

-- what an answer that is there tells of its tests
pub through_must : {A : Type 0} (test : Bool) (why : Reason) (next : Result A Reason) (P : A → Type 0) (a : A) → (test ≡ true → next ≡ Ok a → P a) → must test why next ≡ Ok a → P a
through_must true why next P a given e = given refl e
through_must false why next P a given e = absurd (cc e)

pub through_look : {A B : Type 0} (given : Result A Reason) (go : A → Result B Reason) (P : B → Type 0) (b : B) → ((a : A) → given ≡ Ok a → go a ≡ Ok b → P b) → look given go ≡ Ok b → P b
through_look (Ok a) go P b next e = next a refl e
through_look (Err why) go P b next e = absurd (cc e)

pub through_ok : {A : Type 0} (a b : A) (P : A → Type 0) → P a → ◌≡◌ {A = Result A Reason} (Ok a) (Ok b) → P b
through_ok a b P h e = let is : a ≡ b = cc e in subst P is h

-- between leaves nothing of the last one is kept
abbrev pub plain : ℕ → ℕ → List (List Fact) → Option ℕ → State
plain version n owed least = record { lines = n; version = version; section = InTree; owed = owed; leaf = None; low = least }

pub record IsReady (version : ℕ) (book : BookSeen) (front : List CertLine) (was : List (List Fact)) (state : State) : Type 0 where
  pub n : ℕ
  pub owed : List (List Fact)
  pub kept : owed ≡ was
  pub least : Option ℕ
  pub told : List CertLine
  pub is : state ≡ plain version n owed least
  pub front_is : front ≡ tree_front version book told
  pub grows : Grows version book told owed least

-- a leaf that does not fail is shown
pub passed : (test : Bool) (n : ℕ) → (if test then None else Some n) ≡ None → test ≡ true
passed true n e = refl
passed false n e = absurd (cc e)

all_below_true : (test : ℕ → Bool) (n : ℕ) → ((j : ℕ) → j < n → test j ≡ true) → all_below test n ≡ true
all_below_true test zero h = refl
all_below_true test (suc n) h = rw (h n (omega arith), all_below_true test n (λ j lt. h j (omega (arith, lt)))) refl

pub total_push : (covers : List Cover) (cover : Cover) → total (map (λ (cover : Cover). cover.value) (covers ++ cover ∷ [])) ≡ (total (map (λ (cover : Cover). cover.value) covers) +ℤ cover.value)
total_push [] cover = omega (arith, ints)
total_push (one ∷ covers) cover = omega (arith, ints, total_push covers cover)

at_end : (covers : List Cover) (cover d : Cover) → get_or (covers ++ cover ∷ []) (length covers) d ≡ cover
at_end [] cover d = refl
at_end (one ∷ covers) cover d = at_end covers cover d

-- a number lies before another, or not
pub by_place : {P : Type 0} (j n : ℕ) → (j < n → P) → (n ≤ j → P) → P
by_place {P} j n before behind = on (nat_lt j n) refl where
  on : (test : Bool) → nat_lt j n ≡ test → P
  on true e = before (grind (arith, nat_tests))
  on false e = behind (grind (arith, nat_tests))

module _ (version : ℕ) (book : BookSeen) where
  -- a stuck leaf that is shown takes its place
  close_stuck : (told : List CertLine) (owed : List (List Fact)) (least : Option ℕ) (leaf : OpenLeaf) → IsStuckOpen version book told owed least leaf → is_shown_leaf book leaf ≡ true → Grows version book told owed least
  close_stuck told owed least leaf opened shown =
      let stuck : is_shown_stuck (costs_of book) book leaf.marks leaf.k leaf.family ≡ true = rw opened.claims at shown in
      rw opened.lines_are (grows_leaf version book opened.before leaf.marks owed least opened.grows (grown.Told (whole.Stuck leaf.k leaf.family)) least stuck (λ low reached. (refl, reached)))

  -- and so does a bound leaf whose covers are all shown
  close_bound : (told : List CertLine) (owed : List (List Fact)) (least : Option ℕ) (leaf : BoundLeaf) (covers : List Cover)
      → (opened : IsBoundOpen version book told owed least leaf (cover_events 0 covers)) → length covers ≡ aircraft book → leaf.values ≡ total (map (λ (cover : Cover). cover.value) covers)
      → ((j : ℕ) → j < aircraft book → is_shown_cover (costs_of book) book leaf.marks j leaf.duals (cover_of covers j) ≡ true)
      → Grows version book told opened.others (lower least (bound_of_leaf leaf))
  close_bound told owed least leaf covers opened one_each values shown =
      let all = all_below_true (λ j. is_shown_cover (costs_of book) book leaf.marks j leaf.duals (cover_of covers j)) (aircraft book) shown in
      let same : (length covers == aircraft book) ≡ true = grind (arith, nat_tests, one_each) in
      rw opened.lines_are (grows_leaf version book opened.before leaf.marks opened.others least opened.grows (grown.Told (whole.Bounded leaf.duals covers)) (lower least (bound_of_leaf leaf)) (rw (opened.duals, same, all) refl)
      (λ low reached. let parts = reaches_lower low (bound_of_leaf leaf) least reached in (rw (← values) parts.0, parts.1)))

  -- a shown cover joins those before it
  pub shown_more : (leaf : BoundLeaf) (cover : OpenLeaf) (has : HasCovers book leaf cover) → is_shown_leaf book cover ≡ true
      → (j : ℕ) → j < length (has.closed ++ open_cover cover has.value ∷ []) → is_shown_cover (costs_of book) book leaf.marks j leaf.duals (cover_of (has.closed ++ open_cover cover has.value ∷ []) j) ≡ true
  shown_more leaf cover has shown j lt =
      let last : is_shown_cover (costs_of book) book leaf.marks (length has.closed) leaf.duals (open_cover cover has.value) ≡ true =
      rw (← has.marks, ← has.duals, ← has.number) (let told : Shows cover.value ≡ true = shown in rw has.claims at told) in
      by_place j (length has.closed)
      (λ before. let same = get_or_append_left has.closed (open_cover cover has.value ∷ []) none j before in rw same (has.shown j before))
      (λ behind. let here : j ≡ length has.closed = omega (arith, length-append has.closed (open_cover cover has.value ∷ []), lt, behind) in
      rw (here, at_end has.closed (open_cover cover has.value) none) last)
    where
      none : Cover
      none = record { value = pos 0; family = [] }

      Shows : Option ℤ → Bool
      Shows value = shows book cover.marks cover.k cover.duals value cover.family

  -- the bound leaf with its last cover among those that are shown
  pub all_closed : (told : List CertLine) (owed : List (List Fact)) (least : Option ℕ) (leaf : BoundLeaf) (cover : OpenLeaf) (has : HasCovers book leaf cover)
      → IsBoundOpen version book told owed least leaf (cover_events 0 has.closed ++ cover_event cover.k (open_cover cover has.value))
      → IsBoundOpen version book told owed least leaf (cover_events 0 (has.closed ++ open_cover cover has.value ∷ []))
  all_closed told owed least leaf cover has opened =
      let same = one_cover_more 0 cover.k has.closed (open_cover cover has.value) (omega (arith, has.number)) in
      rw same opened

  pub values_more : (leaf : BoundLeaf) (cover : OpenLeaf) (has : HasCovers book leaf cover) → leaf.values ≡ total (map (λ (cover : Cover). cover.value) (has.closed ++ open_cover cover has.value ∷ []))
  values_more leaf cover has = has.values ∙ sym (total_push has.closed (open_cover cover has.value))

  all_owed : (covers : ℕ) (marks : List Fact) (owed others : List (List Fact)) → (covers == aircraft book) ≡ true → owed ≡ owed_with book covers marks others → others ≡ owed
  all_owed covers marks owed others all is = sym (is ∙ rw all refl)

  -- where the leaf before a line is shown, all that is kept of it is its bound
  ready_at : (n : ℕ) (section : Section) (owed : List (List Fact)) (leaf : Option OpenLeaf) (least : Option ℕ) (front : List CertLine) (here : State)
      → StandsAt version book front section owed leaf least → leaf_fails book leaf ≡ None
      → done_section book (record { lines = n; version = version; section = section; owed = owed; leaf = leaf; low = least }) section ≡ Ok here → IsReady version book front owed here
  ready_at n Start owed leaf least front here h fine e = absurd (cc e)
  ready_at n InTree owed None least front here (told, is, grows) fine e =
      through_ok (plain version n owed least) here (IsReady version book front owed) (record { n = n; owed = owed; kept = refl; least = least; told = told; is = refl; front_is = is; grows = grows }) e
  ready_at n InTree owed (Some leaf) least front here (told, is, opened) fine e =
      let closed = close_stuck told owed least leaf opened (passed (is_shown_leaf book leaf) leaf.line fine) in
      through_ok (plain version n owed least) here (IsReady version book front owed) (record { n = n; owed = owed; kept = refl; least = least; told = told; is = refl; front_is = is; grows = closed }) e
  ready_at n (InBound bound) owed None least front here (told, is, (opened, none, no_values)) fine e =
      through_must (bound.covers == aircraft book) OutOfPlace (Ok (plain version n owed (lower least (bound_of_leaf bound)))) (IsReady version book front owed) here
      (λ all given.
      let fleet : 0 ≡ aircraft book = sym none ∙ eqb-true bound.covers (aircraft book) all in
      let closed = close_bound told owed least bound [] opened fleet no_values (λ j lt. absurd (omega (arith, fleet, lt))) in
      let grows = subst (λ (places : List (List Fact)). Grows version book told places (lower least (bound_of_leaf bound))) (all_owed bound.covers bound.marks owed opened.others all opened.owed_are) closed in
      through_ok (plain version n owed (lower least (bound_of_leaf bound))) here (IsReady version book front owed)
      (record { n = n; owed = owed; kept = refl; least = lower least (bound_of_leaf bound); told = told; is = refl; front_is = is; grows = grows }) given) e
  ready_at n (InBound bound) owed (Some cover) least front here (told, is, (has, opened)) fine e =
      through_must (bound.covers == aircraft book) OutOfPlace (Ok (plain version n owed (lower least (bound_of_leaf bound)))) (IsReady version book front owed) here
      (λ all given.
      let fleet : length (has.closed ++ open_cover cover has.value ∷ []) ≡ aircraft book =
      omega (arith, length-append has.closed (open_cover cover has.value ∷ []), has.many, eqb-true bound.covers (aircraft book) all) in
      let whole = all_closed told owed least bound cover has opened in
      let shown = shown_more bound cover has (passed (is_shown_leaf book cover) cover.line fine) in
      let closed = close_bound told owed least bound (has.closed ++ open_cover cover has.value ∷ []) whole fleet (values_more bound cover has) (λ j lt. shown j (omega (arith, fleet, lt))) in
      let grows = subst (λ (places : List (List Fact)). Grows version book told places (lower least (bound_of_leaf bound))) (all_owed bound.covers bound.marks owed whole.others all whole.owed_are) closed in
      through_ok (plain version n owed (lower least (bound_of_leaf bound))) here (IsReady version book front owed)
      (record { n = n; owed = owed; kept = refl; least = lower least (bound_of_leaf bound); told = told; is = refl; front_is = is; grows = grows }) given) e
  ready_at n (InLean lean) owed leaf least front here h fine e = absurd (cc e)
  ready_at n (InPlan fliers) owed leaf least front here h fine e = absurd (cc e)
  ready_at n (Claimed claim) owed leaf least front here h fine e = absurd (cc e)

  -- a lean leaf takes its place, with its bound
  lean_done : (front : List CertLine) (owed : List (List Fact)) (least : Option ℕ) (leaf : LeanLeaf) (told : List CertLine) → front ≡ tree_front version book told
      → IsLeanOpen version book told owed least leaf → StandsAt version book front InTree owed None (lower_by least (lean_bound book leaf.marks leaf.duals))
  lean_done front owed least leaf told is opened =
      let bound : Option ℕ = lean_bound book leaf.marks leaf.duals in
      let grows = grows_leaf version book opened.before leaf.marks owed least opened.grows (grown.Lean leaf.duals) (lower_by least bound) (rw (opened.second, opened.duals) refl)
      (λ low reached. reaches_lower_by low bound least reached) in
      (told, is, rw opened.lines_are grows)

  priced_at : (front : List CertLine) (state : State) (section : Section) → state.version ≡ version → state.section ≡ section
      → StandsAt version book front section state.owed state.leaf state.low → Stands book front (priced_section book state section)
  priced_at front state Start v s h = rw (v, s) h
  priced_at front state InTree v s h = rw (v, s) h
  priced_at front state (InBound bound) v s h = rw (v, s) h
  priced_at front state (InLean lean) v s (told, is, opened, none) = rw (v, none) (lean_done front state.owed state.low lean told is opened)
  priced_at front state (InPlan fliers) v s h = rw (v, s) h
  priced_at front state (Claimed claim) v s h = rw (v, s) h

pub ready : (book : BookSeen) (front : List CertLine) (state here : State) → Stands book front state → leaf_fails book state.leaf ≡ None → after_leaf book state ≡ Ok here
    → IsReady state.version book front state.owed here
ready book front state here h fine e = ready_at state.version book state.lines state.section state.owed state.leaf state.low front here h fine e

-- pricing a lean leaf says the same, and leaves the leaf that is open
priced_leaf : (book : BookSeen) (state : State) (section : Section) → (priced_section book state section).leaf ≡ state.leaf
priced_leaf book state Start = refl
priced_leaf book state InTree = refl
priced_leaf book state (InBound bound) = refl
priced_leaf book state (InLean lean) = refl
priced_leaf book state (InPlan fliers) = refl
priced_leaf book state (Claimed claim) = refl

pub ready_stands : (book : BookSeen) (front : List CertLine) (state : State) (line : CertLine) → Stands book front state → Stands book front (ready_for book state line)
ready_stands book front state line stands = by_dual (is_dual line)
  where
    by_dual : (dual : Bool) → Stands book front (if dual then state else priced_section book state state.section)
    by_dual true = stands
    by_dual false = priced_at state.version book front state state.section refl refl stands

pub ready_leaf : (book : BookSeen) (state : State) (line : CertLine) → (ready_for book state line).leaf ≡ state.leaf
ready_leaf book state line = by_dual (is_dual line)
  where
    by_dual : (dual : Bool) → (if dual then state else priced_section book state state.section).leaf ≡ state.leaf
    by_dual true = refl
    by_dual false = priced_leaf book state state.section

priced_version : (book : BookSeen) (state : State) (section : Section) → (priced_section book state section).version ≡ state.version
priced_version book state Start = refl
priced_version book state InTree = refl
priced_version book state (InBound bound) = refl
priced_version book state (InLean lean) = refl
priced_version book state (InPlan fliers) = refl
priced_version book state (Claimed claim) = refl

pub ready_version : (book : BookSeen) (state : State) (line : CertLine) → (ready_for book state line).version ≡ state.version
ready_version book state line = by_dual (is_dual line)
  where
    by_dual : (dual : Bool) → (if dual then state else priced_section book state state.section).version ≡ state.version
    by_dual true = refl
    by_dual false = priced_version book state state.section

priced_lines : (book : BookSeen) (state : State) (section : Section) → (priced_section book state section).lines ≡ state.lines
priced_lines book state Start = refl
priced_lines book state InTree = refl
priced_lines book state (InBound bound) = refl
priced_lines book state (InLean lean) = refl
priced_lines book state (InPlan fliers) = refl
priced_lines book state (Claimed claim) = refl

pub ready_lines : (book : BookSeen) (state : State) (line : CertLine) → (ready_for book state line).lines ≡ state.lines
ready_lines book state line = by_dual (is_dual line)
  where
    by_dual : (dual : Bool) → (if dual then state else priced_section book state state.section).lines ≡ state.lines
    by_dual true = refl
    by_dual false = priced_lines book state state.section
