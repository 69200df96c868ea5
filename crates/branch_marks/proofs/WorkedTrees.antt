-- Labels, families, undecided pairs and proof trees, computed in the worked books. They show what a label covers,
-- closed families with and without an end, which pairs facts decide, bounds that are rounded up, and trees that are
-- shown: a leaf that bounds, a split, a fact that follows with a hole behind it, a stuck aircraft. Beside each tree
-- stand changes of it that are not shown, as a value above an end, or a cover too few.
use Rattle.std.proofs.Common.{◌≡◌, ℕ, ℤ, pos, negsuc, Bool, true, false, List, [], ◌∷◌, map, refl}
use Rattle.tail_book.specs.CostTable.{costs_of}
use Rattle.tail_book.specs.LegalTests.{is_allowed, is_link}
use Rattle.tail_book.specs.Link.{is_connected}
use Rattle.tail_book.specs.Allowed.{is_permitted}
use Rattle.branch_marks.specs.declared.fact.Fact.{Fact}
use Rattle.branch_marks.specs.declared.fact.Fact.TheVariants.{Bar, Must, Cut, Tie}
use Rattle.branch_marks.specs.declared.fact.Pair.TheVariants.{Fly, Link}
use Rattle.branch_marks.specs.MarkTests.{is_alive, is_usable, may_end}
use Rattle.branch_marks.specs.FollowingTests.{is_dead}
use Rattle.branch_marks.specs.Labels.{Label}
use Rattle.branch_marks.specs.FamilyTests.{covers, is_closed_family, ends_at_least, has_no_end}
use Rattle.branch_marks.specs.Undecided.{is_undecided}
use Rattle.branch_marks.specs.inside.BranchTests.{undecided}
use Rattle.branch_marks.specs.ProofTree.{Cover, Tree, Step, Split, Hole, Stuck, Bounded, leaf_bound}
use Rattle.branch_marks.specs.TreeTests.{is_shown, bounds_at_least}
use Rattle.branch_marks.proofs.WorkedBook.{two_aircraft, counted, turning, rates}

abbrev label : ℕ → ℤ → List ℤ → Label
label at weight counters = record { at = at; weight = weight; counters = counters }

-- dominance: in weight and in each counter, at the same activity
dominance : map (covers (label 0 (pos 4) (pos 2 ∷ [])))
    (label 0 (pos 4) (pos 2 ∷ []) ∷ label 0 (pos 5) (pos 3 ∷ []) ∷ label 0 (pos 3) (pos 2 ∷ []) ∷ label 0 (pos 5) (pos 1 ∷ []) ∷ label 1 (pos 4) (pos 2 ∷ []) ∷ [])
    ≡ true ∷ true ∷ false ∷ false ∷ false ∷ []
dominance = refl

-- a minute costs 1, and duals are 0: the labels of all beginnings within 120 minutes
abbrev second_flight : List Label
second_flight = label 0 (pos 60000) (pos 60 ∷ []) ∷ label 1 (pos 120000) (pos 120 ∷ []) ∷ label 2 (pos 60000) (pos 60 ∷ []) ∷ label 3 (pos 120000) (pos 120 ∷ []) ∷ []

abbrev is_closed : ℕ → List Fact → List Label → Bool
is_closed limit marks family = is_closed_family (costs_of (counted limit)) (counted limit) marks 0 [] family

closed : is_closed 120 [] second_flight ≡ true
unfolding is_usable is_alive is_link is_connected is_allowed is_permitted
closed = refl

-- where a third flight is within the limit too, its label is covered by that of the way without the first two
closed_by_dominance : is_closed 180 [] second_flight ≡ true
unfolding is_usable is_alive is_link is_connected is_allowed is_permitted
closed_by_dominance = refl

label_left_out : is_closed 120 [] (label 0 (pos 60000) (pos 60 ∷ []) ∷ []) ≡ false
unfolding is_usable is_alive is_link is_connected is_allowed is_permitted
label_left_out = refl

label_too_heavy : is_closed 120 (Must 0 1 ∷ []) (label 0 (pos 60000) (pos 60 ∷ []) ∷ label 1 (pos 120001) (pos 120 ∷ []) ∷ []) ≡ false
unfolding is_usable is_alive is_link is_connected is_allowed is_permitted
label_too_heavy = refl

label_not_alive : is_closed 120 (Bar 0 3 ∷ []) second_flight ≡ false
unfolding is_usable is_alive is_link is_connected is_allowed is_permitted
label_not_alive = refl

-- where 1 has to be flown, 0 and 1 is all there is, and it ends there
abbrev to_the_second : List Label
to_the_second = label 0 (pos 60000) (pos 60 ∷ []) ∷ label 1 (pos 120000) (pos 120 ∷ []) ∷ []

closed_at_the_second : is_closed 120 (Must 0 1 ∷ []) to_the_second ≡ true
unfolding is_usable is_alive is_link is_connected is_allowed is_permitted
closed_at_the_second = refl

ends_of_the_second : map (ends_at_least (Must 0 1 ∷ []) 0 to_the_second) (pos 120000 ∷ pos 120001 ∷ []) ≡ true ∷ false ∷ []
unfolding may_end
ends_of_the_second = refl

-- without marks the carry-in is an end, which weighs 0
ends_at_the_carry_in : map (ends_at_least [] 0 to_the_second) (pos 0 ∷ pos 1 ∷ []) ≡ true ∷ false ∷ []
unfolding may_end
ends_at_the_carry_in = refl

ends_somewhere : has_no_end (Must 0 1 ∷ []) 0 to_the_second ≡ false
unfolding may_end
ends_somewhere = refl

ends_nowhere : has_no_end (Must 0 2 ∷ []) 0 to_the_second ≡ true
unfolding may_end
ends_nowhere = refl

-- two flights at once and two aircraft: four pairs to fly, and no link
four_pairs : undecided rates [] ≡ 4
unfolding is_usable is_alive is_link is_connected is_allowed is_permitted
four_pairs = refl

-- who flies 0 is decided for both aircraft
two_pairs : undecided rates (Must 0 0 ∷ []) ≡ 2
unfolding is_usable is_alive is_link is_connected is_allowed is_permitted
two_pairs = refl

three_pairs : undecided rates (Bar 0 0 ∷ []) ≡ 3
unfolding is_usable is_alive is_link is_connected is_allowed is_permitted
three_pairs = refl

-- eight pairs to fly, and the four links
twelve_pairs : undecided two_aircraft [] ≡ 12
unfolding is_usable is_alive is_link is_connected is_allowed is_permitted
twelve_pairs = refl

-- a tie decides its own link, and the other one from its first end
tied_pairs : undecided two_aircraft (Tie 0 1 ∷ []) ≡ 10
unfolding is_usable is_alive is_link is_connected is_allowed is_permitted
tied_pairs = refl

cut_pairs : undecided two_aircraft (Cut 0 1 ∷ []) ≡ 11
unfolding is_usable is_alive is_link is_connected is_allowed is_permitted
cut_pairs = refl

undecided_link : map (is_undecided two_aircraft (Tie 0 1 ∷ Cut 1 2 ∷ [])) (Link 0 1 ∷ Link 0 3 ∷ Link 1 2 ∷ Link 2 3 ∷ []) ≡ false ∷ false ∷ false ∷ true ∷ []
unfolding is_usable is_alive is_link is_connected is_allowed is_permitted
undecided_link = refl

undecided_flight : map (is_undecided two_aircraft (Must 0 1 ∷ Bar 0 2 ∷ [])) (Fly 0 1 ∷ Fly 1 1 ∷ Fly 0 2 ∷ Fly 1 2 ∷ []) ≡ false ∷ false ∷ false ∷ true ∷ []
unfolding is_usable is_alive is_link is_connected is_allowed is_permitted
undecided_flight = refl

-- the root of the book of two rates is a leaf that bounds by the cost of the least plan
abbrev cover : ℤ → List Label → Cover
cover value family = record { value = value; family = family }

abbrev covers_of : ℤ → List Cover
covers_of second = cover (negsuc 59999) (label 0 (negsuc 59999) [] ∷ label 1 second [] ∷ []) ∷ cover (pos 0) (label 0 (pos 0) [] ∷ label 1 (pos 60000) [] ∷ []) ∷ []

abbrev root : Tree
root = Bounded (pos 120000 ∷ pos 180000 ∷ []) (covers_of (negsuc 59999))

abbrev shown_of_rates : Tree → Bool
shown_of_rates tree = is_shown (costs_of rates) rates [] tree

root_shown : shown_of_rates root ≡ true
unfolding is_usable is_alive may_end is_link is_connected is_allowed is_permitted
root_shown = refl

root_bounds : map (λ low. bounds_at_least low root) (240 ∷ 241 ∷ []) ≡ true ∷ false ∷ []
root_bounds = refl

-- rounded up from 239,999 thousandths, and no further than from 239,000
nearly_as_much : leaf_bound (pos 120000 ∷ pos 179999 ∷ []) (covers_of (negsuc 59999)) ≡ 240
nearly_as_much = refl

a_unit_less : leaf_bound (pos 120000 ∷ pos 179000 ∷ []) (covers_of (negsuc 59999)) ≡ 239
a_unit_less = refl

-- not shown: a value above an end, labels that fall, a dual outside the box, a cover too few
value_too_large : shown_of_rates (Bounded (pos 120000 ∷ pos 180000 ∷ []) (cover (pos 0) (label 0 (negsuc 59999) [] ∷ label 1 (negsuc 59999) [] ∷ []) ∷ cover (pos 0) (label 0 (pos 0) [] ∷ label 1 (pos 60000) [] ∷ []) ∷ [])) ≡ false
unfolding is_usable is_alive may_end is_link is_connected is_allowed is_permitted
value_too_large = refl

labels_fall : shown_of_rates (Bounded (pos 120000 ∷ pos 180000 ∷ []) (cover (negsuc 59999) (label 1 (negsuc 59999) [] ∷ label 0 (negsuc 59999) [] ∷ []) ∷ cover (pos 0) (label 0 (pos 0) [] ∷ label 1 (pos 60000) [] ∷ []) ∷ [])) ≡ false
unfolding is_usable is_alive may_end is_link is_connected is_allowed is_permitted
labels_fall = refl

outside_the_box : shown_of_rates (Bounded (pos 120000 ∷ pos 4000001001 ∷ []) (covers_of (negsuc 59999))) ≡ false
unfolding is_usable is_alive may_end is_link is_connected is_allowed is_permitted
outside_the_box = refl

cover_too_few : shown_of_rates (Bounded (pos 120000 ∷ pos 180000 ∷ []) (cover (negsuc 59999) (label 0 (negsuc 59999) [] ∷ label 1 (negsuc 59999) [] ∷ []) ∷ [])) ≡ false
unfolding is_usable is_alive may_end is_link is_connected is_allowed is_permitted
cover_too_few = refl

-- a split: where aircraft 0 flies 0, plans cost 300 at least, and else 240
abbrev split : Tree
split = Split (Fly 0 0)
    (Bounded (pos 0 ∷ pos 240000 ∷ []) (cover (pos 60000) (label 0 (pos 60000) [] ∷ []) ∷ cover (pos 0) (label 1 (pos 0) [] ∷ []) ∷ []))
    (Bounded (pos 120000 ∷ pos 180000 ∷ []) (cover (negsuc 59999) (label 1 (negsuc 59999) [] ∷ []) ∷ cover (pos 0) (label 0 (pos 0) [] ∷ label 1 (pos 60000) [] ∷ []) ∷ []))

split_shown : shown_of_rates split ≡ true
unfolding is_usable is_alive may_end is_link is_connected is_allowed is_permitted
split_shown = refl

split_bounds : map (λ low. bounds_at_least low split) (240 ∷ 241 ∷ []) ≡ true ∷ false ∷ []
split_bounds = refl

-- in the first branch the carry-in is no end; without that, 60,000 is too much
not_at_the_root : shown_of_rates (Bounded (pos 0 ∷ pos 240000 ∷ []) (cover (pos 60000) (label 0 (pos 60000) [] ∷ []) ∷ cover (pos 0) (label 1 (pos 0) [] ∷ []) ∷ [])) ≡ false
unfolding is_usable is_alive may_end is_link is_connected is_allowed is_permitted
not_at_the_root = refl

-- a split on a pair that is decided is not shown
decided_split : is_shown (costs_of rates) rates (Must 0 0 ∷ []) split ≡ false
unfolding is_usable is_alive may_end is_link is_connected is_allowed is_permitted
decided_split = refl

-- a turn a minute too long: the second flight is barred, and then a hole
abbrev shown_of_turning : Tree → Bool
shown_of_turning tree = is_shown (costs_of (turning 31)) (turning 31) [] tree

barred_and_a_hole : shown_of_turning (Step (Bar 0 1) (Hole 1)) ≡ true
unfolding is_dead is_usable is_alive may_end is_link is_connected is_allowed is_permitted
barred_and_a_hole = refl

does_not_follow : shown_of_turning (Step (Bar 0 0) (Hole 1)) ≡ false
unfolding is_dead is_usable is_alive may_end is_link is_connected is_allowed is_permitted
does_not_follow = refl

known_already : shown_of_turning (Step (Bar 0 1) (Step (Bar 0 1) (Hole 1))) ≡ false
unfolding is_dead is_usable is_alive may_end is_link is_connected is_allowed is_permitted
known_already = refl

no_hole_there : shown_of_turning (Step (Bar 0 1) (Hole 0)) ≡ false
unfolding is_dead is_usable is_alive may_end is_link is_connected is_allowed is_permitted
no_hole_there = refl

-- or a split: where the second flight has to be flown, the aircraft is stuck
abbrev stuck_or_a_hole : ℤ → Tree
stuck_or_a_hole weight = Split (Fly 0 1) (Stuck 0 (label 0 weight [] ∷ [])) (Hole 1)

stuck_shown : shown_of_turning (stuck_or_a_hole (pos 60000)) ≡ true
unfolding is_usable is_alive may_end is_link is_connected is_allowed is_permitted
stuck_shown = refl

stuck_too_heavy : shown_of_turning (stuck_or_a_hole (pos 60001)) ≡ false
unfolding is_usable is_alive may_end is_link is_connected is_allowed is_permitted
stuck_too_heavy = refl

not_stuck : shown_of_turning (Stuck 0 (label 0 (pos 60000) [] ∷ [])) ≡ false
unfolding is_usable is_alive may_end is_link is_connected is_allowed is_permitted
not_stuck = refl

-- it has no bound, and so it bounds by anything
bounds_by_anything : bounds_at_least 4000001 (stuck_or_a_hole (pos 60000)) ≡ true
bounds_by_anything = refl
