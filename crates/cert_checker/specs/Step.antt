-- How a certificate is judged, line by line: what a line fails for, or what is kept after it. The order of the reasons is that
-- of the tests below. For src/nodes.rt, src/ends.rt and others.
use Rattle.std.specs.Prelude.{ℕ, ℤ, pos, ◌+◌, ◌+ℤ◌, List, [], ◌∷◌, ◌++◌, Bool, true, false, ◌&&◌, not, nat_lt, nat_le, ◌==◌, length, Option, Some, None, Result, Ok, Err, if◌then◌else◌, slice_set}
use Rattle.tail_book.specs.Lookup.{activities, aircraft}
use Rattle.tail_book.specs.Seen.{BookSeen}
use Rattle.tail_book.specs.declared.claim.Claim.{Claim}
use Rattle.tail_book.specs.CostTable.{costs_of}
use Rattle.tail_book.specs.Sums.{total}
use Rattle.tail_text.specs.Checks.{look, must}
use Rattle.branch_marks.specs.Bound.{rounded_up}
use Rattle.branch_marks.specs.Branches.{first_branch, second_branch}
use Rattle.branch_marks.specs.Labels.{Label}
use Rattle.branch_marks.specs.ProofTree.{zero_duals}
use Rattle.branch_marks.specs.declared.event.Event.{Event}
use Rattle.branch_marks.specs.declared.event.Event.TheVariants as event
use Rattle.branch_marks.specs.declared.fact.Fact.{Fact}
use Rattle.branch_marks.specs.declared.fact.Pair.{Pair}
use Rattle.branch_marks.specs.declared.fact.Pair.TheVariants as pair
use Rattle.branch_marks.specs.Undecided.{is_undecided}
use Rattle.branch_marks.specs.FactTests.{has_fact}
use Rattle.branch_marks.specs.FollowingTests.{follows}
use Rattle.branch_marks.specs.MarkTests.{is_alive, is_fact_of}
use Rattle.branch_marks.specs.TreeTests.{is_hole, is_in_box}
use Rattle.cert_lines.specs.declared.cert_line.CertLine.{CertLine}
use Rattle.cert_lines.specs.declared.cert_line.CertLine.TheVariants as line
use Rattle.cert_checker.specs.Certificate.{asked_of, claimed_cost}
use Rattle.cert_checker.specs.declared.verdict.Reason.{Reason}
use Rattle.cert_checker.specs.declared.verdict.Reason.TheVariants.{OutOfPlace, KnownFact, NotFollowing, NotAlive, OutOfBox, BadPlan, WeakBound, Unfinished}
use Rattle.cert_checker.specs.Reasons.{has_claimed_plan, reaches}
use Rattle.cert_checker.specs.LeastWeight.{lean_bound}
use Rattle.cert_checker.specs.State.{BoundLeaf, OpenLeaf, State, Section, Start, InTree, InBound, InLean, InPlan, Claimed}

-- what is kept after a line, or why it failed
abbrev pub Step : Type 0
Step = Result State Reason

-- something of the tree is still to come: before the header all of it, and later each subtree that is owed
abbrev pub owes : Section → List (List Fact) → Bool
owes Start owed = true
owes section [] = false
owes section (marks ∷ owed) = true

-- the least bound, with one bound more
abbrev pub lower : Option ℕ → ℕ → Option ℕ
lower None bound = Some bound
lower (Some low) bound = Some (if nat_le low bound then low else bound)

-- with the bound of a leaf that may have none
abbrev pub lower_by : Option ℕ → Option ℕ → Option ℕ
lower_by low None = low
lower_by low (Some bound) = lower low bound

-- what is kept where a lean leaf was priced: nothing of it but its bound, if it has one
abbrev pub priced_section : BookSeen → State → Section → State
priced_section book state (InLean leaf) = record state { section = InTree; low = lower_by state.low (lean_bound book leaf.marks leaf.duals) }
priced_section book state section = state

abbrev pub priced : BookSeen → State → State
priced book state = priced_section book state state.section

-- the bound of a leaf: its duals and the values of its covers
abbrev pub bound_of_leaf : BoundLeaf → ℕ
bound_of_leaf leaf = rounded_up (total leaf.duals +ℤ leaf.values)

-- what is kept where the last leaf is done: nothing of it but its bound. A bound leaf is done where each aircraft has its cover
abbrev pub done_section : BookSeen → State → Section → Step
done_section book state (InBound leaf) =
    must (leaf.covers == aircraft book) OutOfPlace (Ok (record state { section = InTree; leaf = None; low = lower state.low (bound_of_leaf leaf) }))
done_section book state InTree = Ok (record state { section = InTree; leaf = None })
done_section book state section = Err OutOfPlace

abbrev pub after_leaf : BookSeen → State → Step
after_leaf book state = done_section book state state.section

-- the subtree that is owed next begins or goes on: its marks, and what is owed behind it
abbrev pub next_owed : List (List Fact) → (List Fact → List (List Fact) → Step) → Step
next_owed [] go = Err OutOfPlace
next_owed (marks ∷ owed) go = go marks owed

abbrev pub at_node : BookSeen → State → (State → List Fact → List (List Fact) → Step) → Step
at_node book state go = look (after_leaf book state) (λ here. next_owed here.owed (go here))

-- a step: new, and following from the marks
abbrev pub take_fact : BookSeen → State → Fact → Step
take_fact book state fact = at_node book state (λ here marks owed.
    must (is_fact_of book fact) OutOfPlace (
    must (not (has_fact marks fact)) KnownFact (
    must (follows book marks fact) NotFollowing (
    Ok (record here { owed = (marks ++ fact ∷ []) ∷ owed })))))

-- the numbers in a pair are of the book
abbrev pub is_pair_of : BookSeen → Pair → Bool
is_pair_of book (pair.Fly k a) = nat_lt k (aircraft book) && nat_lt a (activities book)
is_pair_of book (pair.Link a b) = nat_lt a (activities book) && nat_lt b (activities book)

-- a split on a pair that is undecided
abbrev pub take_split : BookSeen → State → Pair → Step
take_split book state pair = at_node book state (λ here marks owed.
    must (is_pair_of book pair) OutOfPlace (
    must (is_undecided book marks pair) NotAlive (
    Ok (record here { owed = (marks ++ first_branch pair ∷ []) ∷ (marks ++ second_branch pair ∷ []) ∷ owed }))))

-- a hole, at which nobody is alive
abbrev pub take_hole : BookSeen → State → ℕ → Step
take_hole book state a = at_node book state (λ here marks owed.
    must (nat_lt a (activities book)) OutOfPlace (
    must (is_hole book marks a) NotAlive (
    Ok (record here { owed = owed }))))

-- a stuck leaf, whose labels follow; it is judged under duals that are all 0
abbrev pub take_stuck : BookSeen → State → ℕ → Step
take_stuck book state k = at_node book state (λ here marks owed.
    must (nat_lt k (aircraft book)) OutOfPlace (
    Ok (record here {
      owed = owed;
      leaf = Some (record { line = here.lines + 1; k = k; marks = marks; duals = zero_duals book; value = None; next = 0; family = [] });
    })))

-- what is owed once so many covers of a bound leaf were begun: the leaf itself until its last
abbrev pub owed_with : BookSeen → ℕ → List Fact → List (List Fact) → List (List Fact)
owed_with book covers marks owed = if covers == aircraft book then owed else marks ∷ owed

-- a bound leaf, whose duals and covers follow
abbrev pub take_bound : BookSeen → State → Step
take_bound book state = at_node book state (λ here marks owed.
    Ok (record here {
      section = InBound (record { marks = marks; duals = zero_duals book; next = 0; covers = 0; values = pos 0 });
      owed = owed_with book 0 marks owed;
    }))

-- a lean leaf, whose duals follow
abbrev pub take_lean : BookSeen → State → Step
take_lean book state = at_node book state (λ here marks owed.
    Ok (record here { section = InLean (record { marks = marks; duals = zero_duals book; next = 0 }); owed = owed }))

-- a dual of the bound leaf or of the lean leaf that stands before the line
abbrev pub take_dual_in : BookSeen → State → ℕ → ℤ → Section → Step
take_dual_in book state a dual (InBound leaf) =
    must (leaf.covers == 0 && (nat_le leaf.next a && nat_lt a (activities book))) OutOfPlace (
    must (is_in_box (costs_of book) dual) OutOfBox (
    Ok (record state { section = InBound (record leaf { duals = slice_set leaf.duals a dual; next = a + 1 }) })))
take_dual_in book state a dual (InLean leaf) =
    must (nat_le leaf.next a && nat_lt a (activities book)) OutOfPlace (
    must (is_in_box (costs_of book) dual) OutOfBox (
    Ok (record state { section = InLean (record leaf { duals = slice_set leaf.duals a dual; next = a + 1 }) })))
take_dual_in book state a dual section = Err OutOfPlace

abbrev pub take_dual : BookSeen → State → ℕ → ℤ → Step
take_dual book state a dual = take_dual_in book state a dual state.section

-- what is still owed without the subtree whose leaf is here
abbrev pub rest_owed : List (List Fact) → List (List Fact)
rest_owed [] = []
rest_owed (marks ∷ owed) = owed

-- the next cover of the bound leaf that stands before the line
abbrev pub take_cover_in : BookSeen → State → ℕ → ℤ → Section → Step
take_cover_in book state k value (InBound leaf) =
    must (k == leaf.covers && nat_lt k (aircraft book)) OutOfPlace (
    Ok (record state {
      section = InBound (record leaf { covers = k + 1; values = leaf.values +ℤ value });
      owed = owed_with book (k + 1) leaf.marks (rest_owed state.owed);
      leaf = Some (record { line = state.lines + 1; k = k; marks = leaf.marks; duals = leaf.duals; value = Some value; next = 0; family = [] });
    }))
take_cover_in book state k value section = Err OutOfPlace

abbrev pub take_cover : BookSeen → State → ℕ → ℤ → Step
take_cover book state k value = take_cover_in book state k value state.section

-- a label of the leaf that is open
abbrev pub take_label_in : BookSeen → State → Label → Option OpenLeaf → Step
take_label_in book state label None = Err OutOfPlace
take_label_in book state label (Some leaf) =
    must (nat_le leaf.next label.at && (nat_lt label.at (activities book) && length label.counters == length book.rules.counters)) OutOfPlace (
    must (is_alive book leaf.marks leaf.k label.at) NotAlive (
    Ok (record state { leaf = Some (record leaf { next = label.at; family = leaf.family ++ label ∷ [] }) })))

abbrev pub take_label : BookSeen → State → Label → Step
take_label book state label = take_label_in book state label state.leaf

-- the event that the line is
abbrev pub take_event : BookSeen → State → Event → Step
take_event book state (event.Fact fact) = take_fact book state fact
take_event book state (event.Split pair) = take_split book state pair
take_event book state (event.Hole a) = take_hole book state a
take_event book state (event.Stuck k) = take_stuck book state k
take_event book state event.Bound = take_bound book state
take_event book state (event.Dual a dual) = take_dual book state a dual
take_event book state (event.Cover k value) = take_cover book state k value
take_event book state (event.Label at weight counters) = take_label book state (record { at = at; weight = weight; counters = counters })

-- the header, which is the first line
abbrev pub take_header_in : BookSeen → State → ℕ → ℕ → ℕ → ℕ → Section → Step
take_header_in book state version n m c Start =
    must (n == activities book && (m == aircraft book && c == length book.rules.counters)) OutOfPlace (
    Ok (record state { version = version; section = InTree; owed = [] ∷ [] }))
take_header_in book state version n m c section = Err OutOfPlace

-- the beginning of a plan, behind the whole tree
abbrev pub take_plan : BookSeen → State → Step
take_plan book state =
    must (not (owes state.section state.owed)) Unfinished (
    look (after_leaf book state) (λ here.
    Ok (record here { section = InPlan [] })))

-- who flies the next activity
abbrev pub take_fly_in : BookSeen → State → ℕ → ℕ → Section → Step
take_fly_in book state a k (InPlan fliers) =
    must (a == length fliers && (nat_lt a (activities book) && nat_lt k (aircraft book))) OutOfPlace (
    Ok (record state { section = InPlan (fliers ++ k ∷ []) }))
take_fly_in book state a k section = Err OutOfPlace

-- the claim, over the plan or none
abbrev pub judge_claim : BookSeen → State → Option (List ℕ) → Claim → Step
judge_claim book state fliers claim =
    must (has_claimed_plan book fliers (claimed_cost claim)) BadPlan (
    must (reaches (asked_of book claim) state.low) WeakBound (
    Ok (record state { section = Claimed claim })))

abbrev pub take_claim_in : BookSeen → State → Claim → Section → Step
take_claim_in book state claim (InPlan fliers) = must (length fliers == activities book) OutOfPlace (judge_claim book state (Some fliers) claim)
take_claim_in book state claim section = look (after_leaf book state) (λ here. judge_claim book here None claim)

abbrev pub take_claim : BookSeen → State → Claim → Step
take_claim book state claim = must (not (owes state.section state.owed)) Unfinished (take_claim_in book state claim state.section)

-- what the line by itself fails for, in the order of its reasons
abbrev pub take_line : BookSeen → State → CertLine → Step
take_line book state (line.Header version n m c) = take_header_in book state version n m c state.section
take_line book state (line.Event event) = take_event book state event
take_line book state line.Lean = take_lean book state
take_line book state line.Plan = take_plan book state
take_line book state (line.Fly a k) = take_fly_in book state a k state.section
take_line book state (line.Claim claim) = take_claim book state claim
