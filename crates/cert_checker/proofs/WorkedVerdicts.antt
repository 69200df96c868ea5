-- The verdict at the certificates that a reader tries first, and at what is one line away from them. The rows show that
-- each kind of leaf is accepted where it is true, and the line and the reason of the failure where one thing of it is
-- changed.
use Rattle.std.proofs.Common.{◌≡◌, ℕ, List, [], ◌∷◌, ◌++◌, None, Some, take, drop, replicate, refl}
use Rattle.std.specs.List.{flat_map}
use Rattle.std.specs.Prelude.{codes}
use Rattle.tail_book.specs.Allowed.{is_permitted}
use Rattle.tail_book.specs.Link.{is_connected}
use Rattle.tail_book.specs.Seen.{BookSeen}
use Rattle.tail_book.specs.LegalTests.{is_allowed, is_link}
use Rattle.branch_marks.specs.FollowingTests.{is_dead, is_only_carrier}
use Rattle.branch_marks.specs.MarkTests.{is_alive, is_usable, may_end}
use Rattle.cert_lines.specs.Words.{counters_of}
use Rattle.tail_book.specs.declared.claim.Claim.TheVariants.{Optimal, Infeasible, Limit}
use Rattle.branch_marks.proofs.WorkedBook.{book_with, flight, rates, turning}
use Rattle.cert_checker.specs.Verdict.{failed, verdict, verdict_from}
use Rattle.cert_checker.specs.declared.verdict.Reason.TheVariants.{BadLine, OutOfPlace, KnownFact, NotFollowing, NotAlive, OpenCover, OutOfBox, BadPlan, WeakBound, Unfinished}
use Rattle.cert_checker.specs.declared.verdict.Verdict.{Verdict}
use Rattle.cert_checker.specs.declared.verdict.Verdict.TheVariants.{Yes}

-- the verdict on these lines
abbrev on : BookSeen → List (List ℕ) → Verdict
on book lines = verdict book (flat_map (λ (line : List ℕ). line ++ 10 ∷ []) lines)

-- a flight and no aircraft
abbrev nobody : BookSeen
nobody = book_with (flight (codes "F1") 0 1 360 ∷ []) [] [] []

a_hole : on nobody (codes "tailcert 1 1 0 0" ∷ codes "hole 0" ∷ codes "claim infeasible" ∷ []) ≡ Yes Infeasible
unfolding verdict_from counters_of is_dead is_only_carrier is_usable is_alive may_end is_link is_connected is_allowed is_permitted
a_hole = refl

-- two flights with a turn that is a minute too long, and steps that follow or do not
abbrev late : BookSeen
late = turning 31

abbrev head : List ℕ
head = codes "tailcert 1 2 1 0"

a_step : on late (head ∷ codes "bar 0 1" ∷ codes "hole 1" ∷ codes "claim infeasible" ∷ []) ≡ Yes Infeasible
unfolding verdict_from counters_of is_dead is_only_carrier is_usable is_alive may_end is_link is_connected is_allowed is_permitted
a_step = refl

a_step_that_does_not_follow : on late (head ∷ codes "bar 0 0" ∷ codes "hole 1" ∷ codes "claim infeasible" ∷ []) ≡ failed 2 NotFollowing
unfolding verdict_from counters_of is_dead is_only_carrier is_usable is_alive may_end is_link is_connected is_allowed is_permitted
a_step_that_does_not_follow = refl

a_step_twice : on late (head ∷ codes "bar 0 1" ∷ codes "bar 0 1" ∷ codes "claim infeasible" ∷ []) ≡ failed 3 KnownFact
unfolding verdict_from counters_of is_dead is_only_carrier is_usable is_alive may_end is_link is_connected is_allowed is_permitted
a_step_twice = refl

a_hole_with_somebody : on late (head ∷ codes "bar 0 1" ∷ codes "hole 0" ∷ codes "claim infeasible" ∷ []) ≡ failed 3 NotAlive
unfolding verdict_from counters_of is_dead is_only_carrier is_usable is_alive may_end is_link is_connected is_allowed is_permitted
a_hole_with_somebody = refl

a_stuck_leaf : on late (head ∷ codes "split fly 0 1" ∷ codes "stuck 0" ∷ codes "label 0 60000" ∷ codes "hole 1" ∷ codes "claim infeasible" ∷ []) ≡ Yes Infeasible
unfolding verdict_from counters_of is_dead is_only_carrier is_usable is_alive may_end is_link is_connected is_allowed is_permitted
a_stuck_leaf = refl

a_stuck_leaf_that_is_dearer : on late (head ∷ codes "split fly 0 1" ∷ codes "stuck 0" ∷ codes "label 0 60001" ∷ codes "hole 1" ∷ codes "claim infeasible" ∷ []) ≡ failed 3 OpenCover
unfolding verdict_from counters_of is_dead is_only_carrier is_usable is_alive may_end is_link is_connected is_allowed is_permitted
a_stuck_leaf_that_is_dearer = refl

a_claim_alone : on late (codes "claim infeasible" ∷ []) ≡ failed 1 Unfinished
unfolding verdict_from counters_of is_dead is_only_carrier is_usable is_alive may_end is_link is_connected is_allowed is_permitted
a_claim_alone = refl

-- what has no place, and what is not of the book
another_book : on late (codes "tailcert 1 2 2 0" ∷ []) ≡ failed 1 OutOfPlace
unfolding verdict_from counters_of is_dead is_only_carrier is_usable is_alive may_end is_link is_connected is_allowed is_permitted
another_book = refl

a_plan_alone : on late (codes "plan" ∷ []) ≡ failed 1 Unfinished
unfolding verdict_from counters_of is_dead is_only_carrier is_usable is_alive may_end is_link is_connected is_allowed is_permitted
a_plan_alone = refl

a_leaf_alone : on late (codes "bound" ∷ []) ≡ failed 1 OutOfPlace
unfolding verdict_from counters_of is_dead is_only_carrier is_usable is_alive may_end is_link is_connected is_allowed is_permitted
a_leaf_alone = refl

both_steps : on late (head ∷ codes "bar 0 1" ∷ codes "must 0 0" ∷ codes "hole 1" ∷ codes "claim infeasible" ∷ []) ≡ Yes Infeasible
unfolding verdict_from counters_of is_dead is_only_carrier is_usable is_alive may_end is_link is_connected is_allowed is_permitted
both_steps = refl

a_step_of_its_branch : on late (head ∷ codes "split fly 0 1" ∷ codes "stuck 0" ∷ codes "label 0 60000" ∷ codes "bar 0 1" ∷ []) ≡ failed 5 KnownFact
unfolding verdict_from counters_of is_dead is_only_carrier is_usable is_alive may_end is_link is_connected is_allowed is_permitted
a_step_of_its_branch = refl

a_step_of_nobody : on late (head ∷ codes "bar 1 0" ∷ []) ≡ failed 2 OutOfPlace
unfolding verdict_from counters_of is_dead is_only_carrier is_usable is_alive may_end is_link is_connected is_allowed is_permitted
a_step_of_nobody = refl

a_pair_that_is_decided : on late (head ∷ codes "split fly 0 1" ∷ codes "split fly 0 1" ∷ []) ≡ failed 3 NotAlive
unfolding verdict_from counters_of is_dead is_only_carrier is_usable is_alive may_end is_link is_connected is_allowed is_permitted
a_pair_that_is_decided = refl

a_dual_without_a_bound : on late (head ∷ codes "dual 0 1" ∷ []) ≡ failed 2 OutOfPlace
unfolding verdict_from counters_of is_dead is_only_carrier is_usable is_alive may_end is_link is_connected is_allowed is_permitted
a_dual_without_a_bound = refl

bytes_without_a_newline : (verdict late (replicate 201 48) ≡ failed 1 BadLine) × (verdict late (replicate 200 48) ≡ failed 1 Unfinished)
unfolding verdict_from counters_of is_dead is_only_carrier is_usable is_alive may_end is_link is_connected is_allowed is_permitted
bytes_without_a_newline = (refl, refl)

a_bound_without_aircraft : on nobody (codes "tailcert 1 1 0 0" ∷ codes "bound" ∷ codes "dual 0 1001" ∷ codes "claim limit 2 -" ∷ []) ≡ Yes (Limit 2 None)
unfolding verdict_from counters_of is_dead is_only_carrier is_usable is_alive may_end is_link is_connected is_allowed is_permitted
a_bound_without_aircraft = refl

-- two flights at once, and an aircraft that costs twice as much
abbrev header : List ℕ
header = codes "tailcert 1 2 2 0"

abbrev covers : List (List ℕ)
covers =
    codes "cover 0 -60000" ∷ codes "label 0 -60000" ∷ codes "label 1 -60000"
    ∷ codes "cover 1 0" ∷ codes "label 0 0" ∷ codes "label 1 60000" ∷ []

abbrev flown : List (List ℕ)
flown = codes "plan" ∷ codes "fly 0 1" ∷ codes "fly 1 0" ∷ []

-- the certificate with these lines for its second dual, its first cover, its plan and its claim
abbrev with : List ℕ → List (List ℕ) → List (List ℕ) → List ℕ → List (List ℕ)
with dual shown plan claim = header ∷ codes "bound" ∷ codes "dual 0 120000" ∷ dual ∷ (shown ++ (plan ++ claim ∷ []))

abbrev whole : List (List ℕ)
whole = with (codes "dual 1 180000") covers flown (codes "claim optimal 240")

the_least_cost : on rates whole ≡ Yes (Optimal 240)
unfolding verdict_from counters_of is_dead is_only_carrier is_usable is_alive may_end is_link is_connected is_allowed is_permitted
the_least_cost = refl

a_label_left_out : on rates (take 6 whole ++ drop 7 whole) ≡ failed 5 OpenCover
unfolding verdict_from counters_of is_dead is_only_carrier is_usable is_alive may_end is_link is_connected is_allowed is_permitted
a_label_left_out = refl

a_cover_too_high : on rates (take 4 whole ++ codes "cover 0 0" ∷ drop 5 whole) ≡ failed 5 OpenCover
unfolding verdict_from counters_of is_dead is_only_carrier is_usable is_alive may_end is_link is_connected is_allowed is_permitted
a_cover_too_high = refl

the_claim_left_out : on rates (take 13 whole) ≡ failed 14 Unfinished
unfolding verdict_from counters_of is_dead is_only_carrier is_usable is_alive may_end is_link is_connected is_allowed is_permitted
the_claim_left_out = refl

a_cost_too_low : on rates (with (codes "dual 1 180000") covers flown (codes "claim optimal 239")) ≡ failed 14 BadPlan
unfolding verdict_from counters_of is_dead is_only_carrier is_usable is_alive may_end is_link is_connected is_allowed is_permitted
a_cost_too_low = refl

a_plan_for_no_plan : on rates (with (codes "dual 1 180000") covers flown (codes "claim infeasible")) ≡ failed 14 BadPlan
unfolding verdict_from counters_of is_dead is_only_carrier is_usable is_alive may_end is_link is_connected is_allowed is_permitted
a_plan_for_no_plan = refl

a_dearer_plan : on rates (with (codes "dual 1 180000") covers (codes "plan" ∷ codes "fly 0 0" ∷ codes "fly 1 1" ∷ []) (codes "claim optimal 240")) ≡ failed 14 BadPlan
unfolding verdict_from counters_of is_dead is_only_carrier is_usable is_alive may_end is_link is_connected is_allowed is_permitted
a_dearer_plan = refl

a_bound_rounded_up : on rates (with (codes "dual 1 179999") covers flown (codes "claim optimal 240")) ≡ Yes (Optimal 240)
unfolding verdict_from counters_of is_dead is_only_carrier is_usable is_alive may_end is_link is_connected is_allowed is_permitted
a_bound_rounded_up = refl

a_bound_too_low : on rates (with (codes "dual 1 179000") covers flown (codes "claim optimal 240")) ≡ failed 14 WeakBound
unfolding verdict_from counters_of is_dead is_only_carrier is_usable is_alive may_end is_link is_connected is_allowed is_permitted
a_bound_too_low = refl

a_dual_outside_the_box : on rates (with (codes "dual 1 4000001001") covers flown (codes "claim optimal 240")) ≡ failed 4 OutOfBox
unfolding verdict_from counters_of is_dead is_only_carrier is_usable is_alive may_end is_link is_connected is_allowed is_permitted
a_dual_outside_the_box = refl

a_zero_in_front : on rates (with (codes "dual 1 0180000") covers flown (codes "claim optimal 240")) ≡ failed 4 BadLine
unfolding verdict_from counters_of is_dead is_only_carrier is_usable is_alive may_end is_link is_connected is_allowed is_permitted
a_zero_in_front = refl

a_cover_twice : on rates (take 7 whole ++ codes "cover 0 0" ∷ drop 8 whole) ≡ failed 8 OutOfPlace
unfolding verdict_from counters_of is_dead is_only_carrier is_usable is_alive may_end is_link is_connected is_allowed is_permitted
a_cover_twice = refl

a_claim_twice : on rates (whole ++ codes "claim optimal 240" ∷ []) ≡ failed 15 OutOfPlace
unfolding verdict_from counters_of is_dead is_only_carrier is_usable is_alive may_end is_link is_connected is_allowed is_permitted
a_claim_twice = refl

a_byte_more : verdict rates (flat_map (λ (line : List ℕ). line ++ 10 ∷ []) whole ++ codes "x") ≡ failed 15 Unfinished
unfolding verdict_from counters_of is_dead is_only_carrier is_usable is_alive may_end is_link is_connected is_allowed is_permitted
a_byte_more = refl

a_limit : on rates (with (codes "dual 1 180000") covers flown (codes "claim limit 100 240")) ≡ Yes (Limit 100 (Some 240))
unfolding verdict_from counters_of is_dead is_only_carrier is_usable is_alive may_end is_link is_connected is_allowed is_permitted
a_limit = refl

-- a split whose second tree is not there
half_a_split : on rates (header ∷ codes "split fly 0 0" ∷ codes "bound" ∷ codes "dual 1 240000" ∷ codes "cover 0 60000" ∷ codes "label 0 60000" ∷ codes "cover 1 0" ∷ codes "label 1 0" ∷ (flown ++ codes "claim optimal 240" ∷ [])) ≡ failed 9 Unfinished
unfolding verdict_from counters_of is_dead is_only_carrier is_usable is_alive may_end is_link is_connected is_allowed is_permitted
half_a_split = refl

-- the certificate of a search that visits no node
no_node : on rates (header ∷ codes "bound" ∷ codes "cover 0 0" ∷ codes "label 0 60000" ∷ codes "label 1 120000" ∷ codes "cover 1 0" ∷ codes "label 0 120000" ∷ codes "label 1 240000" ∷ codes "claim limit 0 -" ∷ []) ≡ Yes (Limit 0 None)
unfolding verdict_from counters_of is_dead is_only_carrier is_usable is_alive may_end is_link is_connected is_allowed is_permitted
no_node = refl

-- a place that is wrong, a line that is left out, and a sum below 0, which bounds by 0
abbrev low_covers : List (List ℕ)
low_covers = header ∷ codes "bound" ∷ codes "cover 0 -5" ∷ codes "label 0 60000" ∷ codes "label 1 120000" ∷ codes "cover 1 0" ∷ codes "label 0 120000" ∷ codes "label 1 240000" ∷ []

labels_that_fall : on rates (take 5 whole ++ codes "label 1 -60000" ∷ codes "label 0 -60000" ∷ drop 7 whole) ≡ failed 7 OutOfPlace
unfolding verdict_from counters_of is_dead is_only_carrier is_usable is_alive may_end is_link is_connected is_allowed is_permitted
labels_that_fall = refl

a_counter_too_many : on rates (take 5 whole ++ codes "label 0 -60000 0" ∷ drop 6 whole) ≡ failed 6 OutOfPlace
unfolding verdict_from counters_of is_dead is_only_carrier is_usable is_alive may_end is_link is_connected is_allowed is_permitted
a_counter_too_many = refl

duals_that_fall : on rates (header ∷ codes "bound" ∷ codes "dual 1 180000" ∷ codes "dual 0 120000" ∷ drop 4 whole) ≡ failed 4 OutOfPlace
unfolding verdict_from counters_of is_dead is_only_carrier is_usable is_alive may_end is_link is_connected is_allowed is_permitted
duals_that_fall = refl

fliers_out_of_order : on rates (take 11 whole ++ codes "fly 1 0" ∷ drop 12 whole) ≡ failed 12 OutOfPlace
unfolding verdict_from counters_of is_dead is_only_carrier is_usable is_alive may_end is_link is_connected is_allowed is_permitted
fliers_out_of_order = refl

a_flier_too_few : on rates (take 12 whole ++ codes "claim optimal 240" ∷ []) ≡ failed 13 OutOfPlace
unfolding verdict_from counters_of is_dead is_only_carrier is_usable is_alive may_end is_link is_connected is_allowed is_permitted
a_flier_too_few = refl

a_claim_without_its_plan : on rates (take 10 whole ++ codes "claim optimal 240" ∷ []) ≡ failed 11 BadPlan
unfolding verdict_from counters_of is_dead is_only_carrier is_usable is_alive may_end is_link is_connected is_allowed is_permitted
a_claim_without_its_plan = refl

grammar_behind_the_claim : on rates (whole ++ codes "claim" ∷ []) ≡ failed 15 BadLine
unfolding verdict_from counters_of is_dead is_only_carrier is_usable is_alive may_end is_link is_connected is_allowed is_permitted
grammar_behind_the_claim = refl

a_label_that_is_not_alive : on rates (header ∷ codes "split fly 0 0" ∷ codes "bound" ∷ codes "cover 0 60000" ∷ codes "label 0 60000" ∷ codes "cover 1 0" ∷ codes "label 0 120000" ∷ []) ≡ failed 7 NotAlive
unfolding verdict_from counters_of is_dead is_only_carrier is_usable is_alive may_end is_link is_connected is_allowed is_permitted
a_label_that_is_not_alive = refl

a_negative_sum : on rates (low_covers ++ codes "claim limit 0 -" ∷ []) ≡ Yes (Limit 0 None)
unfolding verdict_from counters_of is_dead is_only_carrier is_usable is_alive may_end is_link is_connected is_allowed is_permitted
a_negative_sum = refl

more_than_a_negative_sum : on rates (low_covers ++ codes "claim limit 1 -" ∷ []) ≡ failed 9 WeakBound
unfolding verdict_from counters_of is_dead is_only_carrier is_usable is_alive may_end is_link is_connected is_allowed is_permitted
more_than_a_negative_sum = refl
