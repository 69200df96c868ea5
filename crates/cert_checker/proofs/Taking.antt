-- Each line that is taken leaves what says what came before: the events of the tree and then that line's, and the places that are
-- left, whose trees are put together to one at the place that the line took.
use Rattle.std.proofs.Common.{◌≡◌, ◌∙◌, ◌+◌, ◌<◌, ◌+ℤ◌, ℕ, ℤ, zero, suc, pos, Bool, true, false, List, [], ◌∷◌, ◌++◌, Option, Some, None, Result, Ok, ◌==◌, not, nat_lt, length, get_or, map, refl, sym, ap, subst, arith, append_assoc, replicate}
use Rattle.std.proofs.lemmas.Bool.Decides.{nat_tests}
use Rattle.std.proofs.lemmas.Int.{ints}
use Rattle.std.proofs.lemmas.List.{length-replicate, map-append}
use Rattle.std.specs.Prelude.{slice_set}
use Rattle.tail_book.specs.Lookup.{activities, aircraft}
use Rattle.tail_book.specs.Seen.{BookSeen}
use Rattle.tail_book.proofs.Deciding.{int_le_tested}
use Rattle.tail_book.specs.CostTable.{box_end, costs_of}
use Rattle.tail_text.specs.Checks.{must}
use Rattle.branch_marks.specs.Branches.{first_branch, second_branch}
use Rattle.branch_marks.specs.ProofTree.{zero_duals}
use Rattle.branch_marks.specs.ProofTree as whole
use Rattle.branch_marks.specs.declared.event.Event.{Event}
use Rattle.branch_marks.specs.declared.event.Event.TheVariants as events
use Rattle.branch_marks.specs.declared.fact.Fact.{Fact}
use Rattle.branch_marks.specs.declared.fact.Pair.{Pair}
use Rattle.branch_marks.specs.Undecided.{is_undecided}
use Rattle.branch_marks.specs.FactTests.{has_fact}
use Rattle.branch_marks.specs.FollowingTests.{follows}
use Rattle.branch_marks.specs.MarkTests.{is_fact_of}
use Rattle.branch_marks.specs.TreeTests.{are_duals, is_hole, is_in_box}
use Rattle.cert_lines.specs.declared.cert_line.CertLine.{CertLine}
use Rattle.cert_lines.specs.declared.cert_line.CertLine.TheVariants as lines
use Rattle.cert_lines.specs.PlanLines.{fly_lines}
use Rattle.cert_checker.specs.LeanTree as grown
use Rattle.cert_checker.specs.Step.{after_leaf, at_node, is_pair_of, next_owed, owed_with, take_bound, take_fact, take_hole, take_lean, take_split, take_stuck}
use Rattle.cert_checker.specs.State.{BoundLeaf, LeanLeaf, State, InBound, InLean}
use Rattle.branch_marks.specs.TreeEvents.{dual_events}
use Rattle.cert_checker.specs.Verdict.{leaf_fails}
use Rattle.cert_checker.specs.declared.verdict.Reason.{Reason}
use Rattle.cert_checker.specs.declared.verdict.Reason.TheVariants.{KnownFact, NotAlive, NotFollowing, OutOfPlace}
use Rattle.cert_checker.proofs.Duals.{all_same, zero_events}
use Rattle.cert_checker.proofs.Growing.{Grows, grows_leaf, grows_split, grows_step}
use Rattle.cert_checker.proofs.Standing.{IsBoundOpen, IsLeanOpen, Stands, plain, ready, through_look, through_must, through_ok, tree_front}

pub not_false : (test : Bool) → not test ≡ true → test ≡ false
not_false true e = absurd (cc e)
not_false false e = refl

-- one line more
pub told_more : (version : ℕ) (book : BookSeen) (front told : List CertLine) (line : CertLine) → front ≡ tree_front version book told
    → front ++ line ∷ [] ≡ tree_front version book (told ++ line ∷ [])
told_more version book front told line is = rw is refl

-- what is put behind the parts of a leaf stands behind the last of them
pub behind_parts : (first : Event) (some others more : List Event) → (first ∷ (some ++ others)) ++ more ≡ first ∷ (some ++ (others ++ more))
behind_parts first some others more = ap (λ rest. first ∷ rest) (append_assoc some others more)

-- one event more of a leaf
pub leaf_more : (told before : List CertLine) (part more : List Event) (event : Event) → told ≡ before ++ map lines.Event part → part ++ event ∷ [] ≡ more
    → told ++ lines.Event event ∷ [] ≡ before ++ map lines.Event more
leaf_more told before part more event is same =
    rw is (append_assoc before (map lines.Event part) (lines.Event event ∷ [])
    ∙ ap (λ rest. before ++ rest) (sym (map-append lines.Event part (event ∷ [])) ∙ ap (λ (all : List Event). map lines.Event all) same))

zero_in_box : (book : BookSeen) → is_in_box (costs_of book) (pos 0) ≡ true
zero_in_box book =
    let end = box_end (costs_of book) in
    let low = (int_le_tested (pos 0) (pos 0 +ℤ pos end)).1 (omega (arith, ints)) in
    let high = (int_le_tested (pos 0) (pos end)).1 (omega (arith, ints)) in
    rw (low, high) refl

pub zeros_are_duals : (book : BookSeen) → are_duals (costs_of book) book (zero_duals book) ≡ true
zeros_are_duals book =
    let many : (length (zero_duals book) == activities book) ≡ true = same_test (length (zero_duals book)) (activities book) (length-replicate (activities book) (pos 0)) in
    rw (many, all_same (is_in_box (costs_of book)) (activities book) (pos 0) (zero_in_box book)) refl
  where
    same_test : (m n : ℕ) → m ≡ n → (m == n) ≡ true
    same_test m n e = grind (arith, nat_tests)

pub zeros_are_zero : (n i : ℕ) → get_or (replicate n (pos 0)) i (pos 0) ≡ pos 0
zeros_are_zero zero i = refl
zeros_are_zero (suc n) zero = refl
zeros_are_zero (suc n) (suc i) = zeros_are_zero n i

pub beside : (duals : List ℤ) (a i : ℕ) (v : ℤ) → a < i → get_or (slice_set duals a v) i (pos 0) ≡ get_or duals i (pos 0)
beside [] a i v lt = refl
beside (dual ∷ duals) zero (suc i) v lt = refl
beside (dual ∷ duals) (suc a) (suc i) v lt = beside duals a i v (omega (arith, lt))
beside (dual ∷ duals) zero zero v lt = absurd (omega (arith, lt))
beside (dual ∷ duals) (suc a) zero v lt = absurd (omega (arith, lt))

pub one_flier_more : (first a k : ℕ) (fliers : List ℕ) → a ≡ first + length fliers → fly_lines first (fliers ++ k ∷ []) ≡ fly_lines first fliers ++ lines.Fly a k ∷ []
one_flier_more first a k [] is = let here : a ≡ first = omega (arith, is) in rw here refl
one_flier_more first a k (one ∷ fliers) is = ap (λ rest. lines.Fly first one ∷ rest) (one_flier_more (first + 1) a k fliers (omega (arith, is)))

module _ (book : BookSeen) (front : List CertLine) where
  -- a node begins or goes on at the place that is owed next
  next_place : (version n : ℕ) (owed : List (List Fact)) (least : Option ℕ) (told : List CertLine) → front ≡ tree_front version book told → Grows version book told owed least
      → (go : State → List Fact → List (List Fact) → Result State Reason) (P : State → Type 0) (next : State)
      → ((marks : List Fact) (others : List (List Fact)) → Grows version book told (marks ∷ others) least → go (plain version n (marks ∷ others) least) marks others ≡ Ok next → P next)
      → next_owed owed (go (plain version n owed least)) ≡ Ok next → P next
  next_place version n [] least told is grows go P next given e = absurd (cc e)
  next_place version n (marks ∷ others) least told is grows go P next given e = given marks others grows e

  through_node : (state : State) → Stands book front state → leaf_fails book state.leaf ≡ None → (go : State → List Fact → List (List Fact) → Result State Reason) (P : State → Type 0) (next : State)
      → ((n : ℕ) (told : List CertLine) (marks : List Fact) (others : List (List Fact)) (least : Option ℕ) → front ≡ tree_front state.version book told → Grows state.version book told (marks ∷ others) least
      → go (plain state.version n (marks ∷ others) least) marks others ≡ Ok next → P next)
      → at_node book state go ≡ Ok next → P next
  through_node state stands fine go P next given e =
      through_look (after_leaf book state) (λ here. next_owed here.owed (go here)) P next
      (λ here done goes.
      let r = ready book front state here stands fine done in
      let on : next_owed r.owed (go (plain state.version r.n r.owed r.least)) ≡ Ok next = subst (λ (here : State). next_owed here.owed (go here) ≡ Ok next) r.is goes in
      next_place state.version r.n r.owed r.least r.told r.front_is r.grows go P next (λ marks others grows now. given r.n r.told marks others r.least r.front_is grows now) on) e

  -- after a line of the tree at a place
  pub fact_taken : (fact : Fact) (next : State) (state : State) → Stands book front state → leaf_fails book state.leaf ≡ None → take_fact book state fact ≡ Ok next
      → Stands book (front ++ lines.Event (events.Fact fact) ∷ []) next
  fact_taken fact next state stands fine e =
      through_node state stands fine (λ here marks owed.
      must (is_fact_of book fact) OutOfPlace (must (not (has_fact marks fact)) KnownFact (must (follows book marks fact) NotFollowing (Ok (record here { owed = (marks ++ fact ∷ []) ∷ owed })))))
      P next
      (λ n told marks others least is grows now.
      let kept : State = record (plain state.version n (marks ∷ others) least) { owed = (marks ++ fact ∷ []) ∷ others } in
      through_must (is_fact_of book fact) OutOfPlace (must (not (has_fact marks fact)) KnownFact (must (follows book marks fact) NotFollowing (Ok kept))) P next
      (λ of_book now. through_must (not (has_fact marks fact)) KnownFact (must (follows book marks fact) NotFollowing (Ok kept)) P next
      (λ new now. through_must (follows book marks fact) NotFollowing (Ok kept) P next
      (λ follow now. through_ok kept next P (told ++ lines.Event (events.Fact fact) ∷ [], told_more state.version book front told (lines.Event (events.Fact fact)) is, grows_step state.version book told marks others least grows fact (not_false (has_fact marks fact) new) follow) now) now) now) now) e
    where
      P : State → Type 0
      P kept = Stands book (front ++ lines.Event (events.Fact fact) ∷ []) kept

  pub split_taken : (pair : Pair) (next : State) (state : State) → Stands book front state → leaf_fails book state.leaf ≡ None → take_split book state pair ≡ Ok next
      → Stands book (front ++ lines.Event (events.Split pair) ∷ []) next
  split_taken pair next state stands fine e =
      through_node state stands fine (λ here marks owed.
      must (is_pair_of book pair) OutOfPlace (must (is_undecided book marks pair) NotAlive (Ok (record here { owed = (marks ++ first_branch pair ∷ []) ∷ (marks ++ second_branch pair ∷ []) ∷ owed }))))
      P next
      (λ n told marks others least is grows now.
      let kept : State = record (plain state.version n (marks ∷ others) least) { owed = (marks ++ first_branch pair ∷ []) ∷ (marks ++ second_branch pair ∷ []) ∷ others } in
      through_must (is_pair_of book pair) OutOfPlace (must (is_undecided book marks pair) NotAlive (Ok kept)) P next
      (λ of_book now. through_must (is_undecided book marks pair) NotAlive (Ok kept) P next
      (λ undecided now. through_ok kept next P (told ++ lines.Event (events.Split pair) ∷ [], told_more state.version book front told (lines.Event (events.Split pair)) is, grows_split state.version book told marks others least grows pair undecided) now) now) now) e
    where
      P : State → Type 0
      P kept = Stands book (front ++ lines.Event (events.Split pair) ∷ []) kept

  pub hole_taken : (a : ℕ) (next : State) (state : State) → Stands book front state → leaf_fails book state.leaf ≡ None → take_hole book state a ≡ Ok next
      → Stands book (front ++ lines.Event (events.Hole a) ∷ []) next
  hole_taken a next state stands fine e =
      through_node state stands fine (λ here marks owed. must (nat_lt a (activities book)) OutOfPlace (must (is_hole book marks a) NotAlive (Ok (record here { owed = owed })))) P next
      (λ n told marks others least is grows now.
      let kept : State = record (plain state.version n (marks ∷ others) least) { owed = others } in
      through_must (nat_lt a (activities book)) OutOfPlace (must (is_hole book marks a) NotAlive (Ok kept)) P next
      (λ of_book now. through_must (is_hole book marks a) NotAlive (Ok kept) P next
      (λ hole now. through_ok kept next P (told ++ lines.Event (events.Hole a) ∷ [], told_more state.version book front told (lines.Event (events.Hole a)) is, grows_leaf state.version book told marks others least grows (grown.Told (whole.Hole a)) least hole (λ low reached. (refl, reached))) now) now) now) e
    where
      P : State → Type 0
      P kept = Stands book (front ++ lines.Event (events.Hole a) ∷ []) kept

  pub stuck_taken : (k : ℕ) (next : State) (state : State) → Stands book front state → leaf_fails book state.leaf ≡ None → take_stuck book state k ≡ Ok next
      → Stands book (front ++ lines.Event (events.Stuck k) ∷ []) next
  stuck_taken k next state stands fine e =
      through_node state stands fine (λ here marks owed.
      must (nat_lt k (aircraft book)) OutOfPlace (Ok (record here { owed = owed; leaf = Some (record { line = here.lines + 1; k = k; marks = marks; duals = zero_duals book; value = None; next = 0; family = [] }) }))) P next
      (λ n told marks others least is grows now.
      let kept : State = record (plain state.version n (marks ∷ others) least) { owed = others; leaf = Some (record { line = n + 1; k = k; marks = marks; duals = zero_duals book; value = None; next = 0; family = [] }) } in
      through_must (nat_lt k (aircraft book)) OutOfPlace (Ok kept) P next
      (λ of_book now. through_ok kept next P (told ++ lines.Event (events.Stuck k) ∷ [], told_more state.version book front told (lines.Event (events.Stuck k)) is, record { before = told; claims = refl; lines_are = refl; grows = grows }) now) now) e
    where
      P : State → Type 0
      P kept = Stands book (front ++ lines.Event (events.Stuck k) ∷ []) kept

  pub bound_taken : (next : State) (state : State) → Stands book front state → leaf_fails book state.leaf ≡ None → take_bound book state ≡ Ok next
      → Stands book (front ++ lines.Event events.Bound ∷ []) next
  bound_taken next state stands fine e =
      through_node state stands fine (λ here marks owed. Ok (record here { section = InBound (begun marks); owed = owed_with book 0 marks owed })) P next
      (λ n told marks others least is grows now.
      let kept : State = record (plain state.version n (marks ∷ others) least) { section = InBound (begun marks); owed = owed_with book 0 marks others } in
      let told_now : List CertLine = told ++ lines.Event events.Bound ∷ [] in
      let shape : told_now ≡ told ++ map lines.Event (events.Bound ∷ (dual_events 0 (zero_duals book) ++ [])) = rw (zero_events (activities book) 0) refl in
      let opened : IsBoundOpen state.version book told_now (owed_with book 0 marks others) least (begun marks) [] = record {
        before = told;
        others = others;
        lines_are = shape;
        owed_are = refl;
        grows = grows;
        duals = zeros_are_duals book;
        zeros = λ i from. zeros_are_zero (activities book) i;
      } in
      through_ok kept next P (told_now, told_more state.version book front told (lines.Event events.Bound) is, (opened, refl, refl)) now) e
    where
      P : State → Type 0
      P kept = Stands book (front ++ lines.Event events.Bound ∷ []) kept

      begun : List Fact → BoundLeaf
      begun marks = record { marks = marks; duals = zero_duals book; next = 0; covers = 0; values = pos 0 }

  pub lean_taken : (next : State) (state : State) → Stands book front state → leaf_fails book state.leaf ≡ None → state.version ≡ 2 → take_lean book state ≡ Ok next
      → Stands book (front ++ lines.Lean ∷ []) next
  lean_taken next state stands fine second e =
      through_node state stands fine (λ here marks owed. Ok (record here { section = InLean (begun marks); owed = owed })) P next
      (λ n told marks others least is grows now.
      let kept : State = record (plain state.version n (marks ∷ others) least) { section = InLean (begun marks); owed = others } in
      let told_now : List CertLine = told ++ lines.Lean ∷ [] in
      let shape : told_now ≡ told ++ (lines.Lean ∷ map lines.Event (dual_events 0 (zero_duals book))) = rw (zero_events (activities book) 0) refl in
      let opened : IsLeanOpen state.version book told_now others least (begun marks) = record {
        before = told;
        lines_are = shape;
        grows = grows;
        duals = zeros_are_duals book;
        zeros = λ i from. zeros_are_zero (activities book) i;
        second = second;
      } in
      through_ok kept next P (told_now, told_more state.version book front told lines.Lean is, opened, refl) now) e
    where
      P : State → Type 0
      P kept = Stands book (front ++ lines.Lean ∷ []) kept

      begun : List Fact → LeanLeaf
      begun marks = record { marks = marks; duals = zero_duals book; next = 0 }
