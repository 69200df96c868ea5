-- An accepted text gets its yes. Its lines are spelled, so the text falls into them again and each is read as itself.
-- They pass one after the other: the header, those of the tree, which is shown, those of the plan, if there is one,
-- with a flier for each activity, and the claim, whose plan and bound are as asked. Behind the last newline stands
-- nothing, so the claim is what is answered.
use Rattle.std.proofs.Common.{◌≡◌, ◌∙◌, ◌+◌, ◌<◌, ◌≤◌, ℕ, suc, true, false, List, [], ◌∷◌, ◌++◌, Option, Some, None, Result, ◌==◌, nat_lt, length, get_or, map, refl, sym, ap, subst, arith, append_assoc, length-append}
use Rattle.std.proofs.lemmas.Bool.Decides.{nat_tests}
use Rattle.std.proofs.lemmas.List.{append-nil}
use Rattle.std.proofs.lemmas.List.Splits.{slice_split_at}
use Rattle.std.specs.Prelude.{All}
use Rattle.tail_book.specs.Cost.{plan_cost}
use Rattle.tail_book.specs.Lookup.{activities, aircraft}
use Rattle.tail_book.specs.Seen.{BookSeen}
use Rattle.tail_book.specs.declared.claim.Claim.{Claim}
use Rattle.tail_book.specs.Fliers.{plan_by}
use Rattle.tail_book.specs.inside.Tests.{LegalPlanDecides}
use Rattle.tail_text.specs.Checks.{look}
use Rattle.tail_text.specs.Parts.{parts_of}
use Rattle.branch_marks.specs.Branches.{IsPairOf, UndecidedPairsAreOfBook}
use Rattle.branch_marks.specs.Following.{FollowingFactsAreOfBook}
use Rattle.branch_marks.specs.declared.fact.Fact.{Fact}
use Rattle.branch_marks.specs.declared.fact.Pair.{Pair}
use Rattle.branch_marks.specs.declared.fact.Pair.TheVariants as pairs
use Rattle.branch_marks.specs.Undecided.{is_undecided}
use Rattle.branch_marks.specs.inside.BranchTests.{UndecidedDecides}
use Rattle.branch_marks.specs.FollowingTests.{follows}
use Rattle.branch_marks.specs.inside.FactTests.{HasFactDecides}
use Rattle.branch_marks.specs.inside.FollowingTests.{FollowsDecides}
use Rattle.branch_marks.specs.MarkTests.{is_alive, is_fact_of}
use Rattle.branch_marks.specs.inside.MarkTests.{AliveDecides, FactOfDecides}
use Rattle.branch_marks.specs.inside.TreeTests.{BoundsDecide, ShownDecides}
use Rattle.cert_lines.specs.declared.cert_line.CertLine.{CertLine}
use Rattle.cert_lines.specs.declared.cert_line.CertLine.TheVariants as lines
use Rattle.cert_lines.specs.Grammar.{IsLine}
use Rattle.cert_lines.specs.OneSpelling.{SpelledLinesAreRead, SpelledLinesAreShort}
use Rattle.cert_lines.specs.Spelling.{spelling}
use Rattle.cert_lines.specs.PlanLines.{fly_lines, plan_lines}
use Rattle.cert_lines.specs.Text.{cert_text}
use Rattle.cert_checker.specs.Certificate.{Accepts, HasClaimedPlan, asked_of, certificate_lines, claimed_cost, header_of}
use Rattle.cert_checker.specs.LeanTree.{tree_lines}
use Rattle.cert_checker.specs.Step.{done_section, is_pair_of, judge_claim, priced, take_claim_in, take_line}
use Rattle.cert_checker.specs.Reasons.{has_claimed_plan, reaches}
use Rattle.cert_checker.specs.State.{State, Section, Start, InTree, InBound, InLean, InPlan, Claimed}
use Rattle.cert_checker.specs.Verdict.{end_with, first_state, verdict, verdict_from}
use Rattle.cert_checker.specs.declared.verdict.Reason.{Reason}
use Rattle.cert_checker.specs.declared.verdict.Verdict.TheVariants.{Yes}
use Rattle.cert_checker.proofs.LeanTests.{bounds_in_tested, shown_in_tested}
use Rattle.cert_checker.proofs.LeafRuns.{kept_in, same_number}
use Rattle.cert_checker.proofs.Running.{IsBetween, IsKept, Passes, one_passes, passes_then, passes_to_end, plain_between}
use Rattle.cert_checker.proofs.Standing.{plain}
use Rattle.cert_checker.proofs.TreeRuns.{tree_passes}

is_less : (m n : ℕ) → m < n → nat_lt m n ≡ true
is_less m n h = grind (arith, nat_tests)

same_test : (m n : ℕ) → m ≡ n → (m == n) ≡ true
same_test m n e = grind (arith, nat_tests)

-- what tests tell of the book
module _ (alive : AliveDecides) (follow : FollowsDecides) (fact_of : FactOfDecides) (undecided : UndecidedDecides) (facts : FollowingFactsAreOfBook) (pairs_are : UndecidedPairsAreOfBook) (book : BookSeen) where
  alive_of_book : (marks : List Fact) (k a : ℕ) → is_alive book marks k a ≡ true → a < activities book
  alive_of_book marks k a e = ((alive book marks k a).0 e).allowed.activity

  facts_of_book : (marks : List Fact) (fact : Fact) → follows book marks fact ≡ true → is_fact_of book fact ≡ true
  facts_of_book marks fact e = (fact_of book fact).1 (facts book marks fact ((follow book marks fact).0 e))

  pair_test : (pair : Pair) → IsPairOf book pair → is_pair_of book pair ≡ true
  pair_test (pairs.Fly k a) h = rw (is_less k (aircraft book) h.0, is_less a (activities book) h.1) refl
  pair_test (pairs.Link a b) h = rw (is_less a (activities book) h.0, is_less b (activities book) h.1) refl

  pairs_of_book : (marks : List Fact) (pair : Pair) → is_undecided book marks pair ≡ true → is_pair_of book pair ≡ true
  pairs_of_book marks pair e = pair_test pair (pairs_are book marks pair ((undecided book marks pair).0 e))

-- the lines of a plan
flies_pass : (version : ℕ) (book : BookSeen) (rest : List ℕ) (n a : ℕ) (flown : List ℕ) (least : Option ℕ) → a ≡ length flown → a + length rest ≡ activities book → All (λ k. k < aircraft book) rest
    → (m : ℕ) × Passes book (kept_in version n (InPlan flown) [] None least) (fly_lines a rest) (kept_in version m (InPlan (flown ++ rest)) [] None least)
flies_pass version book [] n a flown least here all fleet = (n, ap (λ (fliers : List ℕ). kept_in version n (InPlan fliers) [] None least) (sym (append-nil flown)))
flies_pass version book (k ∷ rest) n a flown least here all fleet =
    let one = one_passes book (kept_in version n (InPlan flown) [] None least) (kept_in version n (InPlan (flown ++ k ∷ [])) [] None least) (lines.Fly a k) refl refl refl
    (rw (same_test a (length flown) here, is_less a (activities book) (omega (arith, all)), is_less k (aircraft book) (fleet 0 k (omega arith))) refl) in
    let (m, more) = flies_pass version book rest (n + 1) (a + 1) (flown ++ k ∷ []) least (omega (arith, here, length-append flown (k ∷ []))) (omega (arith, all)) (λ i d lt. fleet (suc i) d (omega (arith, lt))) in
    let all_of = passes_then book (lines.Fly a k ∷ []) (fly_lines (a + 1) rest) (kept_in version n (InPlan flown) [] None least) (kept_in version (n + 1) (InPlan (flown ++ k ∷ [])) [] None least)
    (kept_in version m (InPlan ((flown ++ k ∷ []) ++ rest)) [] None least) one more in
    (m, subst (λ (fliers : List ℕ). Passes book (kept_in version n (InPlan flown) [] None least) (fly_lines a (k ∷ rest)) (kept_in version m (InPlan fliers) [] None least)) (append_assoc flown (k ∷ []) rest) all_of)

-- the claim behind a plan, or behind the tree alone
judged_yes : (book : BookSeen) (state : State) (fliers : Option (List ℕ)) (claim : Claim) → has_claimed_plan book fliers (claimed_cost claim) ≡ true → reaches (asked_of book claim) state.low ≡ true
    → IsKept (judge_claim book state fliers claim) (record state { section = Claimed claim })
judged_yes book state fliers claim plan reached = rw (plan, reached) refl

claim_behind : (book : BookSeen) (state here : State) (claim : Claim) (section : Section) → state.section ≡ section → IsKept (done_section book state section) here
    → take_claim_in book state claim section ≡ judge_claim book here None claim
claim_behind book state here claim Start is done = absurd (cc done)
claim_behind book state here claim (InLean lean) is done = absurd (cc done)
claim_behind book state here claim InTree is done =
    ap (λ (section : Section). look (done_section book state section) (λ here. judge_claim book here None claim)) is ∙ ap (λ (given : Result State Reason). look given (λ here. judge_claim book here None claim)) done
claim_behind book state here claim (InBound bound) is done =
    ap (λ (section : Section). look (done_section book state section) (λ here. judge_claim book here None claim)) is ∙ ap (λ (given : Result State Reason). look given (λ here. judge_claim book here None claim)) done
claim_behind book state here claim (InPlan fliers) is done = absurd (cc done)
claim_behind book state here claim (Claimed other) is done = absurd (cc done)

module _ (plans : LegalPlanDecides) where
  plan_test : (book : BookSeen) (fliers : Option (List ℕ)) (cost : Option ℕ) → HasClaimedPlan book fliers cost → has_claimed_plan book fliers cost ≡ true
  plan_test book None None h = refl
  plan_test book (Some fliers) None h = absurd h
  plan_test book None (Some cost) h = absurd h
  plan_test book (Some fliers) (Some cost) h =
      rw ((plans book (plan_by fliers (aircraft book))).1 h.plan.legal, same_test (plan_cost book (plan_by fliers (aircraft book))) cost h.plan.costs) refl

  -- the plan and the claim, or the claim alone
  ending : (version : ℕ) (book : BookSeen) (state : State) (least : Option ℕ) (fliers : Option (List ℕ)) (claim : Claim) → IsBetween version book state [] least → HasClaimedPlan book fliers (claimed_cost claim)
      → reaches (asked_of book claim) least ≡ true → (after : State) × Passes book state (plan_lines fliers ++ lines.Claim claim ∷ []) after × (after.section ≡ Claimed claim)
  ending version book state least None claim between plan reached =
      let here : State = plain version state.lines [] least in
      let judged = judged_yes book here None claim (plan_test book None (claimed_cost claim) plan) reached in
      let behind = claim_behind book (priced book state) here claim (priced book state).section refl between.done in
      let taken : IsKept (take_line book (priced book state) (lines.Claim claim)) (record here { section = Claimed claim }) = rw between.owing (behind ∙ judged) in
      (record here { lines = state.lines + 1; section = Claimed claim }, one_passes book state (record here { section = Claimed claim }) (lines.Claim claim) refl refl between.fine taken, refl)
  ending version book state least (Some fliers) claim between plan reached =
      let named = fliers_of_plan book fliers (claimed_cost claim) plan in
      let begun : State = kept_in version state.lines (InPlan []) [] None least in
      let taken : IsKept (take_line book (priced book state) lines.Plan) begun = rw (between.owing, between.done) refl in
      let one = one_passes book state begun lines.Plan refl refl between.fine taken in
      let (m, flown) = flies_pass version book fliers (state.lines + 1) 0 [] least refl (omega (arith, named.0)) named.1 in
      let whole : State = kept_in version m (InPlan fliers) [] None least in
      let judged = judged_yes book whole (Some fliers) claim (plan_test book (Some fliers) (claimed_cost claim) plan) reached in
      let claimed : IsKept (take_line book whole (lines.Claim claim)) (kept_in version m (Claimed claim) [] None least) = rw (same_test (length fliers) (activities book) named.0) judged in
      let last = one_passes book whole (kept_in version m (Claimed claim) [] None least) (lines.Claim claim) refl refl refl claimed in
      let after : State = kept_in version (m + 1) (Claimed claim) [] None least in
      let tail = passes_then book (fly_lines 0 fliers) (lines.Claim claim ∷ []) (kept_in version (state.lines + 1) (InPlan []) [] None least) whole after flown last in
      (after, passes_then book (lines.Plan ∷ []) (fly_lines 0 fliers ++ lines.Claim claim ∷ []) state (kept_in version (state.lines + 1) (InPlan []) [] None least) after one tail, refl)
    where
      fliers_of_plan : (book : BookSeen) (fliers : List ℕ) (cost : Option ℕ) → HasClaimedPlan book (Some fliers) cost → (length fliers ≡ activities book) × All (λ k. k < aircraft book) fliers
      fliers_of_plan book fliers None h = absurd h
      fliers_of_plan book fliers (Some cost) h = (h.one_each, h.fleet)

-- the text falls into its lines again
no_newline : (c : ℕ) → 32 ≤ c → (c == 10) ≡ false
no_newline c h = grind (arith, nat_tests)

lines_again : SpelledLinesAreShort → (all : List CertLine) → All IsLine all → parts_of 10 (cert_text all) ≡ map spelling all ++ [] ∷ []
lines_again short [] good = refl
lines_again short (line ∷ all) good =
    let clear = (short line (good 0 line (omega arith))).1 in
    rw (append_assoc (spelling line) (10 ∷ []) (cert_text all))
    (slice_split_at (λ b. b == 10) (spelling line) 10 (cert_text all) (λ k d lt. no_newline (get_or (spelling line) k d) (clear k d lt)) refl
    ∙ ap (λ (parts : List (List ℕ)). spelling line ∷ parts) (lines_again short all (λ k d lt. good (suc k) d (omega (arith, lt)))))

module _ (alive : AliveDecides) (follow : FollowsDecides) (fact_of : FactOfDecides) (undecided : UndecidedDecides) (facts : FollowingFactsAreOfBook) (pairs_are : UndecidedPairsAreOfBook)
    (has : HasFactDecides) (shown : ShownDecides) (bounds : BoundsDecide) (plans : LegalPlanDecides) (read : SpelledLinesAreRead) (short : SpelledLinesAreShort) where
  pub accepted_yes : (book : BookSeen) (text : List ℕ) (claim : Claim) → Accepts book text claim → verdict book text ≡ Yes claim
  accepted_yes book text claim (version, tree, fliers, made) =
      let first : State = plain version 1 ([] ∷ []) None in
      let header = one_passes book first_state (plain version 0 ([] ∷ []) None) (header_of version book) refl refl refl
      (rw (same_number (activities book), same_number (aircraft book), same_number (length book.rules.counters)) refl) in
      let (middle, least, passes, between, reached) = tree_passes version book (alive_of_book alive follow fact_of undecided facts pairs_are book) (facts_of_book alive follow fact_of undecided facts pairs_are book)
      (pairs_of_book alive follow fact_of undecided facts pairs_are book) tree [] [] None first (plain_between version book 1 ([] ∷ []) None)
      ((shown_in_tested has follow undecided shown version book tree []).1 made.shown) in
      let (after, ends, claimed) = ending plans version book middle least fliers claim between made.plan (reached (asked_of book claim) refl ((bounds_in_tested bounds book (asked_of book claim) tree []).1 made.bounds)) in
      let behind = passes_then book (tree_lines tree) (plan_lines fliers ++ lines.Claim claim ∷ []) first middle after passes ends in
      let all = passes_then book (header_of version book ∷ []) (tree_lines tree ++ (plan_lines fliers ++ lines.Claim claim ∷ [])) first_state first after header behind in
      let parts : parts_of 10 text ≡ map spelling (certificate_lines version book tree fliers claim) ++ [] ∷ [] = rw made.spelled (lines_again short (certificate_lines version book tree fliers claim) made.lines) in
      let end : end_with after [] ≡ Yes claim = rw claimed refl in
      ap (λ (parts : List (List ℕ)). verdict_from book first_state parts) parts ∙ passes_to_end read book (certificate_lines version book tree fliers claim) first_state after all made.lines ∙ end
