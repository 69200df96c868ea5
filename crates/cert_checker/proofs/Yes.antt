-- A text whose lines are all taken, the last of them a claim, is accepted for that claim: what is kept at its end is a whole tree,
-- the claimed plan, and a least bound that reaches what the claim asks.
use Rattle.std.proofs.Common.{◌≡◌, ◌∙◌, ◌+◌, ◌<◌, ℕ, Bool, true, false, List, [], ◌∷◌, ◌++◌, Option, Some, None, Result, Ok, Err, ◌==◌, length, map, refl, sym, ap, subst, arith, append_assoc, nat_lt}
use Rattle.std.proofs.lemmas.Bool.{and_parts, eqb-true}
use Rattle.std.proofs.lemmas.List.{append-nil}
use Rattle.std.proofs.lemmas.List.Elements.{All-cons}
use Rattle.std.proofs.lemmas.List.Splits.{join_with_byte-slice_split, length-slice_split}
use Rattle.std.specs.List.{join_with_byte}
use Rattle.std.specs.Prelude.{All, if◌then◌else◌}
use Rattle.tail_book.specs.Cost.{plan_cost}
use Rattle.tail_book.specs.Lookup.{aircraft}
use Rattle.tail_book.specs.Seen.{BookSeen}
use Rattle.tail_book.specs.declared.claim.Claim.{Claim}
use Rattle.tail_book.specs.Fliers.{plan_by}
use Rattle.tail_book.specs.LegalTests.{is_legal_plan}
use Rattle.tail_book.specs.inside.Tests.{LegalPlanDecides}
use Rattle.tail_text.specs.Parts.{parts_of}
use Rattle.branch_marks.specs.inside.BranchTests.{UndecidedDecides}
use Rattle.branch_marks.specs.inside.FactTests.{HasFactDecides}
use Rattle.branch_marks.specs.inside.FollowingTests.{FollowsDecides}
use Rattle.branch_marks.specs.inside.TreeTests.{BoundsDecide, ShownDecides}
use Rattle.cert_lines.specs.declared.cert_line.CertLine.{CertLine}
use Rattle.cert_lines.specs.declared.cert_line.CertLine.TheVariants as lines
use Rattle.cert_lines.specs.Grammar.{IsLine}
use Rattle.cert_lines.specs.OneSpelling.{ReadLinesAreSpelled}
use Rattle.cert_lines.specs.Reading.{line_of}
use Rattle.cert_lines.specs.Spelling.{spelling}
use Rattle.cert_lines.specs.PlanLines.{plan_lines}
use Rattle.cert_lines.specs.Text.{cert_text}
use Rattle.cert_checker.specs.Certificate.{Accepts, HasClaimedPlan, asked_of, certificate_lines, claimed_cost}
use Rattle.cert_checker.specs.Step.{take_line}
use Rattle.cert_checker.specs.Reasons.{has_claimed_plan}
use Rattle.cert_checker.specs.State.{State, Section, Start, InTree, InBound, InLean, InPlan, Claimed}
use Rattle.cert_checker.specs.Verdict.{and_on, at_line, claimed_at, failed, first_state, is_label, is_of_version, judge_line, judge_of_version, leaf_fails, ready_for, take_read, verdict, verdict_from}
use Rattle.cert_lines.specs.declared.cert_line.TheConstants.{LENGTH_LIMIT}
use Rattle.cert_checker.specs.declared.verdict.Reason.{Reason}
use Rattle.cert_checker.specs.declared.verdict.Reason.TheVariants.{BadLine, Unfinished}
use Rattle.cert_checker.specs.declared.verdict.Verdict.{Verdict}
use Rattle.cert_checker.specs.declared.verdict.Verdict.TheVariants.{Yes}
use Rattle.cert_checker.proofs.Claiming.{line_taken}
use Rattle.cert_checker.proofs.Growing.{Grows, grows_last}
use Rattle.cert_checker.proofs.LeanTests.{bounds_in_tested, shown_in_tested}
use Rattle.cert_checker.proofs.Standing.{IsJudged, NamesEach, Stands, StandsAt, tree_front}

-- a yes behind a line comes from what is kept after it
behind_step : (n : ℕ) (step : Result State Reason) (go : State → Verdict) (claim : Claim) (R : Type 0) → ((kept : State) → step ≡ Ok kept → go (record kept { lines = n }) ≡ Yes claim → R)
    → and_on (at_line n step) go ≡ Yes claim → R
behind_step n (Ok kept) go claim R given e = given kept refl e
behind_step n (Err why) go claim R given e = absurd (cc e)

behind_line : (book : BookSeen) (state : State) (line : CertLine) (fails : Option ℕ) (go : State → Verdict) (claim : Claim) (R : Type 0)
    → (fails ≡ None → (kept : State) → take_line book (ready_for book state line) line ≡ Ok kept → go (record kept { lines = state.lines + 1 }) ≡ Yes claim → R)
    → and_on (judge_line book state line fails) go ≡ Yes claim → R
behind_line book state line None go claim R given e = behind_step (state.lines + 1) (take_line book (ready_for book state line) line) go claim R (given refl) e
behind_line book state line (Some opened) go claim R given e = absurd (cc e)

behind_version : (book : BookSeen) (state : State) (line : CertLine) (test : Bool) → is_of_version state.version line ≡ test → (go : State → Verdict) (claim : Claim) (R : Type 0)
    → (is_of_version state.version line ≡ true → (if is_label line then None else leaf_fails book state.leaf) ≡ None → (kept : State)
    → take_line book (ready_for book state line) line ≡ Ok kept → go (record kept { lines = state.lines + 1 }) ≡ Yes claim → R)
    → and_on (judge_of_version book state line test) go ≡ Yes claim → R
behind_version book state line true is go claim R given e = behind_line book state line (if is_label line then None else leaf_fails book state.leaf) go claim R (given is) e
behind_version book state line false is go claim R given e = absurd (cc e)

behind_read : (book : BookSeen) (state : State) (text : List ℕ) (read : Option CertLine) → line_of text ≡ read → (go : State → Verdict) (claim : Claim) (R : Type 0)
    → ((line : CertLine) → line_of text ≡ Some line → is_of_version state.version line ≡ true → (if is_label line then None else leaf_fails book state.leaf) ≡ None
    → (kept : State) → take_line book (ready_for book state line) line ≡ Ok kept → go (record kept { lines = state.lines + 1 }) ≡ Yes claim → R)
    → and_on (take_read book state read) go ≡ Yes claim → R
behind_read book state text None is go claim R given e = absurd (cc e)
behind_read book state text (Some line) is go claim R given e =
    behind_version book state line (is_of_version state.version line) refl go claim R (λ told fine kept taken now. given line is told fine kept taken now) e

no_label : (test : Bool) (fails : Option ℕ) → (if test then None else fails) ≡ None → test ≡ false → fails ≡ None
no_label true fails e other = absurd (cc other)
no_label false fails e other = e

-- the lines that are left end with the claim
record EndsIn (book : BookSeen) (front : List CertLine) (claim : Claim) (texts : List (List ℕ)) : Type 0 where
  more : List CertLine
  good : All IsLine more
  texts_are : texts ≡ map spelling more ++ [] ∷ []
  version : ℕ
  told : List CertLine
  fliers : Option (List ℕ)
  least : Option ℕ
  all_are : front ++ more ≡ tree_front version book told ++ (plan_lines fliers ++ lines.Claim claim ∷ [])
  grows : Grows version book told [] least
  names : NamesEach book fliers
  fits : IsJudged book least fliers claim

claimed_ends : (book : BookSeen) (front : List CertLine) (claim : Claim) (n : ℕ) (section : Section) (state : State) → state.section ≡ section → Stands book front state
    → claimed_at n section ≡ Yes claim → EndsIn book front claim ([] ∷ [])
claimed_ends book front claim n Start state is stands e = absurd (cc e)
claimed_ends book front claim n InTree state is stands e = absurd (cc e)
claimed_ends book front claim n (InBound bound) state is stands e = absurd (cc e)
claimed_ends book front claim n (InLean lean) state is stands e = absurd (cc e)
claimed_ends book front claim n (InPlan fliers) state is stands e = absurd (cc e)
claimed_ends book front claim n (Claimed other) state is stands e =
    let same : other ≡ claim = cc e in
    let (told, fliers, all_are, grows, names, fits, no_leaf) = stands_at in
    rw (← same) (record {
      more = [];
      good = λ k d lt. absurd (omega (arith, lt));
      texts_are = refl;
      version = state.version;
      told = told;
      fliers = fliers;
      least = state.low;
      all_are = append-nil front ∙ all_are;
      grows = grows;
      names = names;
      fits = fits;
    })
  where
    stands_at : StandsAt state.version book front (Claimed other) state.owed state.leaf state.low
    stands_at = subst (λ (section : Section). StandsAt state.version book front section state.owed state.leaf state.low) is stands

empty_is : (rest : List ℕ) → (length rest == 0) ≡ true → rest ≡ []
empty_is [] e = refl
empty_is (c ∷ cs) e = absurd (omega (arith, eqb-true (length (c ∷ cs)) 0 e))

rest_ends : (book : BookSeen) (front : List CertLine) (claim : Claim) (state : State) (rest : List ℕ) → Stands book front state → (test : Bool) → (length rest == 0) ≡ test
    → (if test then claimed_at state.lines state.section else failed (state.lines + 1) (if nat_lt LENGTH_LIMIT (length rest) then BadLine else Unfinished)) ≡ Yes claim → EndsIn book front claim (rest ∷ [])
rest_ends book front claim state rest stands true empty e = rw (empty_is rest empty) (claimed_ends book front claim state.lines state.section state refl stands e)
rest_ends book front claim state rest stands false more e = absurd (cc e)

module _ (book : BookSeen) (claim : Claim) (read : ReadLinesAreSpelled) where
  texts_end : (text : List ℕ) (texts : List (List ℕ)) (front : List CertLine) (state : State) → Stands book front state → verdict_from book state (text ∷ texts) ≡ Yes claim → EndsIn book front claim (text ∷ texts)
  unfolding verdict_from
  texts_end text [] front state stands e = rest_ends book front claim state text stands (length text == 0) refl e
  texts_end text (next ∷ texts) front state stands e =
      behind_read book state text (line_of text) refl (λ kept. verdict_from book kept (next ∷ texts)) claim (EndsIn book front claim (text ∷ next ∷ texts))
      (λ line is of_version fine kept taken now.
      let told = read text line is in
      let after = line_taken book front line state kept told.0 stands (no_label (is_label line) (leaf_fails book state.leaf) fine) of_version taken in
      let rest = texts_end next texts (front ++ line ∷ []) (record kept { lines = state.lines + 1 }) after now in
      record {
        more = line ∷ rest.more;
        good = All-cons IsLine line rest.more told.0 rest.good;
        texts_are = ap (λ (text : List ℕ). text ∷ next ∷ texts) told.1 ∙ ap (λ (texts : List (List ℕ)). spelling line ∷ texts) rest.texts_are;
        version = rest.version;
        told = rest.told;
        fliers = rest.fliers;
        least = rest.least;
        all_are = sym (append_assoc front (line ∷ []) rest.more) ∙ rest.all_are;
        grows = rest.grows;
        names = rest.names;
        fits = rest.fits;
      }) e

-- the text is its lines, each with its newline
joined_lines : (more : List CertLine) → join_with_byte 10 (map spelling more ++ [] ∷ []) ≡ cert_text more
joined_lines [] = refl
joined_lines (line ∷ []) = sym (append-nil (spelling line ++ 10 ∷ []))
joined_lines (line ∷ next ∷ more) =
    ap (λ rest. spelling line ++ (10 ∷ rest)) (joined_lines (next ∷ more)) ∙ sym (append_assoc (spelling line) (10 ∷ []) (cert_text (next ∷ more)))

claimed_plan : LegalPlanDecides → (book : BookSeen) (fliers : Option (List ℕ)) (cost : Option ℕ) → NamesEach book fliers → has_claimed_plan book fliers cost ≡ true → HasClaimedPlan book fliers cost
claimed_plan decides book None None names e = tt
claimed_plan decides book (Some fliers) None names e = absurd (cc e)
claimed_plan decides book None (Some cost) names e = absurd (cc e)
claimed_plan decides book (Some fliers) (Some cost) names e =
    let plan = plan_by fliers (aircraft book) in
    let parts = and_parts (is_legal_plan book plan) (plan_cost book plan == cost) e in
    record { one_each = names.0; fleet = names.1; plan = record { legal = (decides book plan).0 parts.0; costs = eqb-true (plan_cost book plan) cost parts.1 } }

parts_some : (text : List ℕ) (parts : List (List ℕ)) → parts_of 10 text ≡ parts → 0 < length parts
parts_some text parts e = rw (← e) (omega (arith, length-slice_split (λ b. b == 10) text))

module _ (has : HasFactDecides) (follow : FollowsDecides) (undecided : UndecidedDecides) (shown : ShownDecides) (bounds : BoundsDecide) (plans : LegalPlanDecides) (read : ReadLinesAreSpelled) where
  whole_text : (book : BookSeen) (text : List ℕ) (claim : Claim) (parts : List (List ℕ)) → parts_of 10 text ≡ parts → verdict_from book first_state parts ≡ Yes claim → EndsIn book [] claim parts
  whole_text book text claim [] is e = absurd (omega (arith, parts_some text [] is))
  whole_text book text claim (first ∷ parts) is e = texts_end book claim read first parts [] first_state (refl, refl, refl) e

  pub yes_accepted : (book : BookSeen) (text : List ℕ) (claim : Claim) → verdict book text ≡ Yes claim → Accepts book text claim
  yes_accepted book text claim e =
      let ends = whole_text book text claim (parts_of 10 text) refl e in
      let (tree, made) = grows_last ends.version book ends.told ends.least ends.grows (asked_of book claim) ends.fits.reached in
      let whole : ends.more ≡ certificate_lines ends.version book tree ends.fliers claim =
      ends.all_are ∙ ap (λ (told : List CertLine). tree_front ends.version book told ++ (plan_lines ends.fliers ++ lines.Claim claim ∷ [])) (sym made.spelled) in
      let spelled : text ≡ cert_text ends.more = sym (join_with_byte-slice_split 10 text) ∙ ap (λ (parts : List (List ℕ)). join_with_byte 10 parts) ends.texts_are ∙ joined_lines ends.more in (
        ends.version,
        tree,
        ends.fliers,
        record {
          lines = subst (λ (all : List CertLine). All IsLine all) whole ends.good;
          spelled = spelled ∙ ap (λ (all : List CertLine). cert_text all) whole;
          shown = (shown_in_tested has follow undecided shown ends.version book tree []).0 made.shown;
          bounds = (bounds_in_tested bounds book (asked_of book claim) tree []).0 made.bounds;
          plan = claimed_plan plans book ends.fliers (claimed_cost claim) ends.names ends.fits.plan;
        },
      )
