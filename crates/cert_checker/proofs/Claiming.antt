-- The header begins a certificate: before it nothing stands, and behind it the root is owed. A plan and a claim come
-- only where no place is owed, so the tree before them is whole. Fliers are added one at a time, for the activities in
-- order. A claim that is judged stands behind the whole tree, with the plan or without one.
use Rattle.std.proofs.Common.{◌≡◌, ◌∙◌, ◌+◌, ◌<◌, ℕ, true, false, List, [], ◌∷◌, ◌++◌, Option, Some, None, Result, Ok, ◌&&◌, ◌==◌, not, nat_lt, length, refl, sym, ap, subst, arith, append_assoc}
use Rattle.std.proofs.lemmas.Bool.{and_parts, eqb-true}
use Rattle.std.proofs.lemmas.Bool.Decides.{nat_tests}
use Rattle.std.proofs.lemmas.List.{append-nil}
use Rattle.tail_book.specs.Lookup.{activities, aircraft}
use Rattle.tail_book.specs.Seen.{BookSeen}
use Rattle.tail_book.specs.declared.claim.Claim.{Claim}
use Rattle.tail_text.specs.Checks.{look, must}
use Rattle.branch_marks.specs.Events.{IsNotable}
use Rattle.branch_marks.specs.declared.event.Event.{Event}
use Rattle.branch_marks.specs.declared.event.Event.TheVariants as events
use Rattle.branch_marks.specs.declared.fact.Fact.{Fact}
use Rattle.cert_lines.specs.declared.cert_line.CertLine.{CertLine}
use Rattle.cert_lines.specs.declared.cert_line.CertLine.TheVariants as lines
use Rattle.cert_lines.specs.Grammar.{IsLine}
use Rattle.cert_lines.specs.PlanLines.{plan_lines}
use Rattle.cert_checker.specs.Certificate.{asked_of, claimed_cost}
use Rattle.cert_checker.specs.Step.{after_leaf, judge_claim, owes, take_claim, take_claim_in, take_event, take_fly_in, take_header_in, take_line, take_plan}
use Rattle.cert_checker.specs.Reasons.{has_claimed_plan, reaches}
use Rattle.cert_checker.specs.State.{OpenLeaf, State, Section, Start, InTree, InBound, InLean, InPlan, Claimed}
use Rattle.std.proofs.lemmas.List.Elements.{All-push}
use Rattle.cert_checker.specs.Verdict.{is_label, is_of_version, leaf_fails, ready_for}
use Rattle.cert_checker.specs.declared.verdict.Reason.{Reason}
use Rattle.cert_checker.specs.declared.verdict.Reason.TheVariants.{BadPlan, OutOfPlace, Unfinished, WeakBound}
use Rattle.cert_checker.proofs.Growing.{Grows, grows_first}
use Rattle.cert_checker.proofs.InLeaf.{cover_at, dual_at, label_at}
use Rattle.cert_checker.proofs.Taking.{bound_taken, fact_taken, hole_taken, lean_taken, not_false, one_flier_more, split_taken, stuck_taken}
use Rattle.cert_checker.proofs.Standing.{NamesEach, Stands, StandsAt, plain, ready, ready_leaf, ready_stands, ready_version, through_look, through_must, through_ok, tree_front}

less : (m n : ℕ) → nat_lt m n ≡ true → m < n
less m n e = grind (arith, nat_tests)

-- nothing is owed
none_owed : (section : Section) (owed : List (List Fact)) → owes section owed ≡ false → owed ≡ []
none_owed Start owed e = absurd (cc e)
none_owed InTree [] e = refl
none_owed InTree (marks ∷ owed) e = absurd (cc e)
none_owed (InBound bound) [] e = refl
none_owed (InBound bound) (marks ∷ owed) e = absurd (cc e)
none_owed (InLean lean) [] e = refl
none_owed (InLean lean) (marks ∷ owed) e = absurd (cc e)
none_owed (InPlan fliers) [] e = refl
none_owed (InPlan fliers) (marks ∷ owed) e = absurd (cc e)
none_owed (Claimed claim) [] e = refl
none_owed (Claimed claim) (marks ∷ owed) e = absurd (cc e)

module _ (book : BookSeen) (front : List CertLine) where
  -- the first line
  header_at : (n was version activity aircrafts counters : ℕ) (section : Section) (owed : List (List Fact)) (leaf : Option OpenLeaf) (least : Option ℕ)
      → StandsAt was book front section owed leaf least
      → (next : State) → take_header_in book (record { lines = n; version = was; section = section; owed = owed; leaf = leaf; low = least }) version activity aircrafts counters section ≡ Ok next
      → Stands book (front ++ lines.Header version activity aircrafts counters ∷ []) next
  header_at n was version a m c InTree owed leaf least h next e = absurd (cc e)
  header_at n was version a m c (InBound bound) owed leaf least h next e = absurd (cc e)
  header_at n was version a m c (InLean lean) owed leaf least h next e = absurd (cc e)
  header_at n was version a m c (InPlan fliers) owed leaf least h next e = absurd (cc e)
  header_at n was version a m c (Claimed claim) owed leaf least h next e = absurd (cc e)
  header_at n was version a m c Start owed leaf least (none, no_leaf, no_bound) next e =
      through_must (a == activities book && (m == aircraft book && c == length book.rules.counters)) OutOfPlace (Ok kept) P next
      (λ same now.
      let parts = and_parts (a == activities book) (m == aircraft book && c == length book.rules.counters) same in
      let others = and_parts (m == aircraft book) (c == length book.rules.counters) parts.1 in
      let is : front ++ lines.Header version a m c ∷ [] ≡ tree_front version book [] =
      rw (none, eqb-true a (activities book) parts.0, eqb-true m (aircraft book) others.0, eqb-true c (length book.rules.counters) others.1) refl in
      through_ok kept next P (rw (no_leaf, no_bound) ([], is, grows_first version book)) now) e
    where
      P : State → Type 0
      P kept = Stands book (front ++ lines.Header version a m c ∷ []) kept

      kept : State
      kept = record { lines = n; version = version; section = InTree; owed = [] ∷ []; leaf = leaf; low = least }

  -- the plan begins behind the whole tree
  plan_taken : (state next : State) → Stands book front state → leaf_fails book state.leaf ≡ None → take_plan book state ≡ Ok next → Stands book (front ++ lines.Plan ∷ []) next
  plan_taken state next stands fine e =
      through_must (not (owes state.section state.owed)) Unfinished (look (after_leaf book state) (λ here. Ok (record here { section = InPlan [] }))) P next
      (λ free now. through_look (after_leaf book state) (λ here. Ok (record here { section = InPlan [] })) P next
      (λ here done now.
      let r = ready book front state here stands fine done in
      let nothing : r.owed ≡ [] = r.kept ∙ none_owed state.section state.owed (not_false (owes state.section state.owed) free) in
      let grows : Grows state.version book r.told [] r.least = subst (λ (places : List (List Fact)). Grows state.version book r.told places r.least) nothing r.grows in
      let is : front ++ lines.Plan ∷ [] ≡ tree_front state.version book r.told ++ plan_lines (Some []) = ap (λ all. all ++ lines.Plan ∷ []) r.front_is in
      let kept : State = record (plain state.version r.n r.owed r.least) { section = InPlan [] } in
      let made : ◌≡◌ {A = Result State Reason} (Ok kept) (Ok next) = subst (λ (here : State). ◌≡◌ {A = Result State Reason} (Ok (record here { section = InPlan [] })) (Ok next)) r.is now in
      through_ok kept next P (r.told, is, grows, refl, λ k d lt. absurd (omega (arith, lt))) made) now) e
    where
      P : State → Type 0
      P kept = Stands book (front ++ lines.Plan ∷ []) kept

  -- one flier more
  fly_at : (n version a k : ℕ) (section : Section) (owed : List (List Fact)) (leaf : Option OpenLeaf) (least : Option ℕ) → StandsAt version book front section owed leaf least
      → (next : State) → take_fly_in book (record { lines = n; version = version; section = section; owed = owed; leaf = leaf; low = least }) a k section ≡ Ok next → Stands book (front ++ lines.Fly a k ∷ []) next
  fly_at n version a k Start owed leaf least h next e = absurd (cc e)
  fly_at n version a k InTree owed leaf least h next e = absurd (cc e)
  fly_at n version a k (InBound bound) owed leaf least h next e = absurd (cc e)
  fly_at n version a k (InLean lean) owed leaf least h next e = absurd (cc e)
  fly_at n version a k (Claimed claim) owed leaf least h next e = absurd (cc e)
  fly_at n version a k (InPlan fliers) owed leaf least (told, is, grows, no_leaf, fleet) next e =
      through_must (a == length fliers && (nat_lt a (activities book) && nat_lt k (aircraft book))) OutOfPlace (Ok kept) P next
      (λ place now.
      let here : a ≡ 0 + length fliers = omega (arith, eqb-true a (length fliers) (and_parts (a == length fliers) (nat_lt a (activities book) && nat_lt k (aircraft book)) place).0) in
      let numbers = and_parts (nat_lt a (activities book)) (nat_lt k (aircraft book)) (and_parts (a == length fliers) (nat_lt a (activities book) && nat_lt k (aircraft book)) place).1 in
      let more : front ++ lines.Fly a k ∷ [] ≡ tree_front version book told ++ plan_lines (Some (fliers ++ k ∷ [])) =
      rw is (append_assoc (tree_front version book told) (plan_lines (Some fliers)) (lines.Fly a k ∷ []) ∙ ap (λ rest. tree_front version book told ++ (lines.Plan ∷ rest)) (sym (one_flier_more 0 a k fliers here))) in
      through_ok kept next P (told, more, grows, no_leaf, All-push (λ k. k < aircraft book) fliers k fleet (less k (aircraft book) numbers.1)) now) e
    where
      P : State → Type 0
      P kept = Stands book (front ++ lines.Fly a k ∷ []) kept

      kept : State
      kept = record { lines = n; version = version; section = InPlan (fliers ++ k ∷ []); owed = owed; leaf = leaf; low = least }

  -- a claim that is judged
  judged : (state next : State) (fliers : Option (List ℕ)) (claim : Claim) (told : List CertLine) → front ≡ tree_front state.version book told ++ plan_lines fliers → Grows state.version book told [] state.low
      → NamesEach book fliers → state.leaf ≡ None → judge_claim book state fliers claim ≡ Ok next → Stands book (front ++ lines.Claim claim ∷ []) next
  judged state next fliers claim told is grows names no_leaf e =
      through_must (has_claimed_plan book fliers (claimed_cost claim)) BadPlan (must (reaches (asked_of book claim) state.low) WeakBound (Ok kept)) P next
      (λ plan now. through_must (reaches (asked_of book claim) state.low) WeakBound (Ok kept) P next
      (λ reached now.
      let all : front ++ lines.Claim claim ∷ [] ≡ tree_front state.version book told ++ (plan_lines fliers ++ lines.Claim claim ∷ []) = rw is (append_assoc (tree_front state.version book told) (plan_lines fliers) (lines.Claim claim ∷ [])) in
      through_ok kept next P (told, fliers, all, grows, names, record { plan = plan; reached = reached }, no_leaf) now) now) e
    where
      P : State → Type 0
      P kept = Stands book (front ++ lines.Claim claim ∷ []) kept

      kept : State
      kept = record state { section = Claimed claim }

  -- a claim without a plan comes directly behind the tree
  claim_behind_tree : (state next : State) (claim : Claim) → Stands book front state → leaf_fails book state.leaf ≡ None → owes state.section state.owed ≡ false
      → look (after_leaf book state) (λ here. judge_claim book here None claim) ≡ Ok next → Stands book (front ++ lines.Claim claim ∷ []) next
  claim_behind_tree state next claim stands fine free e =
      through_look (after_leaf book state) (λ here. judge_claim book here None claim) (Stands book (front ++ lines.Claim claim ∷ [])) next
      (λ here done now.
      let r = ready book front state here stands fine done in
      let nothing : r.owed ≡ [] = r.kept ∙ none_owed state.section state.owed free in
      let grows : Grows state.version book r.told [] r.least = subst (λ (places : List (List Fact)). Grows state.version book r.told places r.least) nothing r.grows in
      let on : judge_claim book (plain state.version r.n r.owed r.least) None claim ≡ Ok next = subst (λ (here : State). judge_claim book here None claim ≡ Ok next) r.is now in
      judged (plain state.version r.n r.owed r.least) next None claim r.told (r.front_is ∙ sym (append-nil (tree_front state.version book r.told))) grows tt refl on) e

  claim_at : (n version : ℕ) (claim : Claim) (section : Section) (owed : List (List Fact)) (leaf : Option OpenLeaf) (least : Option ℕ) → StandsAt version book front section owed leaf least → leaf_fails book leaf ≡ None
      → owes section owed ≡ false → (next : State) → take_claim_in book (record { lines = n; version = version; section = section; owed = owed; leaf = leaf; low = least }) claim section ≡ Ok next
      → Stands book (front ++ lines.Claim claim ∷ []) next
  claim_at n version claim Start owed leaf least h fine free next e = absurd (cc free)
  claim_at n version claim InTree owed leaf least h fine free next e = claim_behind_tree (record { lines = n; version = version; section = InTree; owed = owed; leaf = leaf; low = least }) next claim h fine free e
  claim_at n version claim (InBound bound) owed leaf least h fine free next e = claim_behind_tree (record { lines = n; version = version; section = InBound bound; owed = owed; leaf = leaf; low = least }) next claim h fine free e
  claim_at n version claim (InLean lean) owed leaf least h fine free next e =
      claim_behind_tree (record { lines = n; version = version; section = InLean lean; owed = owed; leaf = leaf; low = least }) next claim h fine free e
  claim_at n version claim (Claimed other) owed leaf least h fine free next e = claim_behind_tree (record { lines = n; version = version; section = Claimed other; owed = owed; leaf = leaf; low = least }) next claim h fine free e
  claim_at n version claim (InPlan fliers) owed leaf least (told, is, grows, no_leaf, fleet) fine free next e =
      through_must (length fliers == activities book) OutOfPlace (judge_claim book (record { lines = n; version = version; section = InPlan fliers; owed = owed; leaf = leaf; low = least }) (Some fliers) claim) (Stands book (front ++ lines.Claim claim ∷ [])) next
      (λ all now. judged (record { lines = n; version = version; section = InPlan fliers; owed = owed; leaf = leaf; low = least }) next (Some fliers) claim told is grows (eqb-true (length fliers) (activities book) all, fleet) no_leaf now) e

  claim_taken : (state next : State) (claim : Claim) → Stands book front state → leaf_fails book state.leaf ≡ None → take_claim book state claim ≡ Ok next → Stands book (front ++ lines.Claim claim ∷ []) next
  claim_taken state next claim stands fine e =
      through_must (not (owes state.section state.owed)) Unfinished (take_claim_in book state claim state.section) (Stands book (front ++ lines.Claim claim ∷ [])) next
      (λ free now. claim_at state.lines state.version claim state.section state.owed state.leaf state.low stands fine (not_false (owes state.section state.owed) free) next now) e

  event_taken : (event : Event) (state next : State) → IsNotable event → Stands book front state → (is_label (lines.Event event) ≡ false → leaf_fails book state.leaf ≡ None)
      → take_event book state event ≡ Ok next → Stands book (front ++ lines.Event event ∷ []) next
  event_taken (events.Fact fact) state next good stands fine e = fact_taken book front fact next state stands (fine refl) e
  event_taken (events.Split pair) state next good stands fine e = split_taken book front pair next state stands (fine refl) e
  event_taken (events.Hole a) state next good stands fine e = hole_taken book front a next state stands (fine refl) e
  event_taken (events.Stuck k) state next good stands fine e = stuck_taken book front k next state stands (fine refl) e
  event_taken events.Bound state next good stands fine e = bound_taken book front next state stands (fine refl) e
  event_taken (events.Dual a v) state next good stands fine e = dual_at state.version book front state.lines state.owed state.low a v good.2 state.section state.leaf stands next e
  event_taken (events.Cover k v) state next good stands fine e = cover_at state.version book front state.lines state.owed state.low k v state.section state.leaf stands (fine refl) next e
  event_taken (events.Label at weight counters) state next good stands fine e =
      label_at state.version book front state.lines state.owed state.low (record { at = at; weight = weight; counters = counters }) state.section state.leaf stands next e

  by_line : (line : CertLine) (state next : State) → IsLine line → Stands book front state → (is_label line ≡ false → leaf_fails book state.leaf ≡ None)
      → is_of_version state.version line ≡ true → take_line book state line ≡ Ok next → Stands book (front ++ line ∷ []) next
  by_line (lines.Header version n m c) state next good stands fine told e =
      header_at state.lines state.version version n m c state.section state.owed state.leaf state.low stands next e
  by_line (lines.Event event) state next good stands fine told e = event_taken event state next good stands fine e
  by_line lines.Lean state next good stands fine told e = lean_taken book front next state stands (fine refl) (eqb-true state.version 2 told) e
  by_line lines.Plan state next good stands fine told e = plan_taken state next stands (fine refl) e
  by_line (lines.Fly a k) state next good stands fine told e = fly_at state.lines state.version a k state.section state.owed state.leaf state.low stands next e
  by_line (lines.Claim claim) state next good stands fine told e = claim_taken state next claim stands (fine refl) e

  -- a lean leaf before the line is priced first
  pub line_taken : (line : CertLine) (state next : State) → IsLine line → Stands book front state → (is_label line ≡ false → leaf_fails book state.leaf ≡ None)
      → is_of_version state.version line ≡ true → take_line book (ready_for book state line) line ≡ Ok next → Stands book (front ++ line ∷ []) next
  line_taken line state next good stands fine told e =
      by_line line (ready_for book state line) next good (ready_stands book front state line stands)
      (λ other. ap (leaf_fails book) (ready_leaf book state line) ∙ fine other)
      (ap (λ (version : ℕ). is_of_version version line) (ready_version book state line) ∙ told) e
