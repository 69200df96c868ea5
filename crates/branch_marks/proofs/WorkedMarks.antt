-- What each kind of fact leaves open in the worked book, computed: each row is over the activities 0 to 3, or over the places.
use Rattle.std.proofs.Common.{◌≡◌, ℕ, Bool, true, false, List, [], ◌∷◌, map, refl}
use Rattle.std.proofs.lemmas.Bool.{both_ways}
use Rattle.tail_book.specs.declared.place.Place.{Place}
use Rattle.tail_book.specs.declared.place.Place.TheVariants.{Carry, After}
use Rattle.tail_book.specs.LegalTests.{is_allowed, is_link}
use Rattle.tail_book.specs.Link.{is_connected}
use Rattle.tail_book.specs.Allowed.{is_permitted}
use Rattle.branch_marks.specs.declared.fact.Fact.{Fact}
use Rattle.branch_marks.specs.declared.fact.Fact.TheVariants.{Bar, Must, Cut, Tie}
use Rattle.branch_marks.specs.declared.fact.Pair.TheVariants.{Fly, Link}
use Rattle.branch_marks.specs.Branches.{first_branch, second_branch}
use Rattle.branch_marks.specs.Facts.{flies, joins, Holds}
use Rattle.branch_marks.specs.MarkTests.{is_fact_of, is_alive, is_usable, may_end, fits}
use Rattle.branch_marks.proofs.WorkedBook.{two_aircraft}

abbrev numbers : List ℕ
numbers = 0 ∷ 1 ∷ 2 ∷ 3 ∷ []

-- which activities are alive for aircraft k
abbrev alive : List Fact → ℕ → List Bool
alive marks k = map (is_alive two_aircraft marks k) numbers

-- to which activities aircraft k may go on from x
abbrev goes : List Fact → ℕ → Place → List Bool
goes marks k x = map (is_usable two_aircraft marks k x) numbers

-- at which places aircraft k may end: the carry-in, and after each activity
abbrev ends : List Fact → ℕ → List Bool
ends marks k = map (may_end marks k) (Carry ∷ After 0 ∷ After 1 ∷ After 2 ∷ After 3 ∷ [])

-- which of these routes of aircraft k fit: none, one flight, there and back, all four, and the first with the last
abbrev fitting : List Fact → ℕ → List Bool
fitting marks k = map (fits two_aircraft marks k) ([] ∷ (0 ∷ []) ∷ (0 ∷ 1 ∷ []) ∷ (0 ∷ 1 ∷ 2 ∷ 3 ∷ []) ∷ (0 ∷ 3 ∷ []) ∷ [])

-- without marks the rules alone decide
all_alive : alive [] 0 ≡ true ∷ true ∷ true ∷ true ∷ []
unfolding is_alive is_allowed is_permitted
all_alive = refl

past_the_book : map (is_alive two_aircraft [] 0) (4 ∷ []) ≡ false ∷ []
unfolding is_alive is_allowed is_permitted
past_the_book = refl

past_the_fleet : alive [] 2 ≡ false ∷ false ∷ false ∷ false ∷ []
unfolding is_alive is_allowed is_permitted
past_the_fleet = refl

begins_at_arlanda : goes [] 0 Carry ≡ true ∷ false ∷ true ∷ false ∷ []
unfolding is_usable is_alive is_link is_connected is_allowed is_permitted
begins_at_arlanda = refl

goes_on_from_oslo : goes [] 0 (After 0) ≡ false ∷ true ∷ false ∷ true ∷ []
unfolding is_usable is_alive is_link is_connected is_allowed is_permitted
goes_on_from_oslo = refl

ends_anywhere : ends [] 0 ≡ true ∷ true ∷ true ∷ true ∷ true ∷ []
unfolding may_end
ends_anywhere = refl

all_fit : fitting [] 0 ≡ true ∷ true ∷ true ∷ true ∷ true ∷ []
unfolding may_end is_usable is_alive is_link is_connected is_allowed is_permitted
all_fit = refl

-- a Bar keeps its aircraft from its activity, and from the links at both its ends
barred : alive (Bar 0 1 ∷ []) 0 ≡ true ∷ false ∷ true ∷ true ∷ []
unfolding is_alive is_allowed is_permitted
barred = refl

bar_of_another : alive (Bar 0 1 ∷ []) 1 ≡ true ∷ true ∷ true ∷ true ∷ []
unfolding is_alive is_allowed is_permitted
bar_of_another = refl

goes_to_no_barred : goes (Bar 0 1 ∷ []) 0 (After 0) ≡ false ∷ false ∷ false ∷ true ∷ []
unfolding is_usable is_alive is_link is_connected is_allowed is_permitted
goes_to_no_barred = refl

goes_from_no_barred : goes (Bar 0 0 ∷ []) 0 (After 0) ≡ false ∷ false ∷ false ∷ false ∷ []
unfolding is_usable is_alive is_link is_connected is_allowed is_permitted
goes_from_no_barred = refl

bar_lets_end : ends (Bar 0 1 ∷ []) 0 ≡ true ∷ true ∷ true ∷ true ∷ true ∷ []
unfolding may_end
bar_lets_end = refl

-- a Must keeps the others from its activity, and its aircraft from going around it and from ending before it
flown_by_its_own : alive (Must 0 1 ∷ []) 0 ≡ true ∷ true ∷ true ∷ true ∷ []
unfolding is_alive is_allowed is_permitted
flown_by_its_own = refl

flown_by_no_other : alive (Must 0 1 ∷ []) 1 ≡ true ∷ false ∷ true ∷ true ∷ []
unfolding is_alive is_allowed is_permitted
flown_by_no_other = refl

goes_not_around : goes (Must 0 1 ∷ []) 0 (After 0) ≡ false ∷ true ∷ false ∷ false ∷ []
unfolding is_usable is_alive is_link is_connected is_allowed is_permitted
goes_not_around = refl

goes_on_from_it : goes (Must 0 1 ∷ []) 0 (After 1) ≡ false ∷ false ∷ true ∷ false ∷ []
unfolding is_usable is_alive is_link is_connected is_allowed is_permitted
goes_on_from_it = refl

goes_on_behind_it : goes (Must 0 1 ∷ []) 0 (After 2) ≡ false ∷ false ∷ false ∷ true ∷ []
unfolding is_usable is_alive is_link is_connected is_allowed is_permitted
goes_on_behind_it = refl

another_goes_around : goes (Must 0 1 ∷ []) 1 (After 0) ≡ false ∷ false ∷ false ∷ true ∷ []
unfolding is_usable is_alive is_link is_connected is_allowed is_permitted
another_goes_around = refl

-- the carry-in lies before activity 0
begins_with_the_first : goes (Must 0 0 ∷ []) 0 Carry ≡ true ∷ false ∷ false ∷ false ∷ []
unfolding is_usable is_alive is_link is_connected is_allowed is_permitted
begins_with_the_first = refl

ends_behind_the_first : ends (Must 0 0 ∷ []) 0 ≡ false ∷ true ∷ true ∷ true ∷ true ∷ []
unfolding may_end
ends_behind_the_first = refl

ends_behind_it : ends (Must 0 1 ∷ []) 0 ≡ false ∷ false ∷ true ∷ true ∷ true ∷ []
unfolding may_end
ends_behind_it = refl

another_ends_before : ends (Must 0 1 ∷ []) 1 ≡ true ∷ true ∷ true ∷ true ∷ true ∷ []
unfolding may_end
another_ends_before = refl

must_fit : fitting (Must 0 1 ∷ []) 0 ≡ false ∷ false ∷ true ∷ true ∷ false ∷ []
unfolding may_end is_usable is_alive is_link is_connected is_allowed is_permitted
must_fit = refl

must_of_another_fit : fitting (Must 0 1 ∷ []) 1 ≡ true ∷ true ∷ false ∷ false ∷ true ∷ []
unfolding may_end is_usable is_alive is_link is_connected is_allowed is_permitted
must_of_another_fit = refl

-- a Cut takes one link away, from every aircraft
cut_lets_fly : alive (Cut 0 1 ∷ []) 0 ≡ true ∷ true ∷ true ∷ true ∷ []
unfolding is_alive is_allowed is_permitted
cut_lets_fly = refl

cut_off : goes (Cut 0 1 ∷ []) 0 (After 0) ≡ false ∷ false ∷ false ∷ true ∷ []
unfolding is_usable is_alive is_link is_connected is_allowed is_permitted
cut_off = refl

cut_off_for_all : goes (Cut 0 1 ∷ []) 1 (After 0) ≡ false ∷ false ∷ false ∷ true ∷ []
unfolding is_usable is_alive is_link is_connected is_allowed is_permitted
cut_off_for_all = refl

cut_from_one_place_alone : goes (Cut 0 3 ∷ []) 0 (After 2) ≡ false ∷ false ∷ false ∷ true ∷ []
unfolding is_usable is_alive is_link is_connected is_allowed is_permitted
cut_from_one_place_alone = refl

no_cut_from_the_carry_in : goes (Cut 0 2 ∷ []) 0 Carry ≡ true ∷ false ∷ true ∷ false ∷ []
unfolding is_usable is_alive is_link is_connected is_allowed is_permitted
no_cut_from_the_carry_in = refl

cut_lets_end : ends (Cut 0 1 ∷ []) 0 ≡ true ∷ true ∷ true ∷ true ∷ true ∷ []
unfolding may_end
cut_lets_end = refl

-- a Tie leaves its first end one way on, and its second end one way there; the carry-in begins none
tie_lets_fly : alive (Tie 0 1 ∷ []) 0 ≡ true ∷ true ∷ true ∷ true ∷ []
unfolding is_alive is_allowed is_permitted
tie_lets_fly = refl

tied_at_its_first_end : goes (Tie 0 1 ∷ []) 0 (After 0) ≡ false ∷ true ∷ false ∷ false ∷ []
unfolding is_usable is_alive is_link is_connected is_allowed is_permitted
tied_at_its_first_end = refl

tied_at_its_second_end : goes (Tie 0 3 ∷ []) 0 (After 2) ≡ false ∷ false ∷ false ∷ false ∷ []
unfolding is_usable is_alive is_link is_connected is_allowed is_permitted
tied_at_its_second_end = refl

tied_for_all : goes (Tie 0 3 ∷ []) 1 (After 0) ≡ false ∷ false ∷ false ∷ true ∷ []
unfolding is_usable is_alive is_link is_connected is_allowed is_permitted
tied_for_all = refl

no_tie_from_the_carry_in : goes (Tie 1 2 ∷ []) 0 Carry ≡ true ∷ false ∷ false ∷ false ∷ []
unfolding is_usable is_alive is_link is_connected is_allowed is_permitted
no_tie_from_the_carry_in = refl

no_tie_at_the_carry_in : goes (Tie 0 1 ∷ []) 0 Carry ≡ true ∷ false ∷ true ∷ false ∷ []
unfolding is_usable is_alive is_link is_connected is_allowed is_permitted
no_tie_at_the_carry_in = refl

ends_in_no_tie : ends (Tie 0 1 ∷ []) 0 ≡ true ∷ false ∷ true ∷ true ∷ true ∷ []
unfolding may_end
ends_in_no_tie = refl

tie_fits : fitting (Tie 0 1 ∷ []) 0 ≡ true ∷ false ∷ true ∷ true ∷ false ∷ []
unfolding may_end is_usable is_alive is_link is_connected is_allowed is_permitted
tie_fits = refl

-- all four together: aircraft 0 flies 0 and 1 in a row, and never goes on to 2; aircraft 1 does not fly 3
abbrev all_kinds : List Fact
all_kinds = Must 0 0 ∷ Tie 0 1 ∷ Cut 1 2 ∷ Bar 1 3 ∷ []

alive_for_the_first : alive all_kinds 0 ≡ true ∷ true ∷ true ∷ true ∷ []
unfolding is_alive is_allowed is_permitted
alive_for_the_first = refl

alive_for_the_second : alive all_kinds 1 ≡ false ∷ true ∷ true ∷ false ∷ []
unfolding is_alive is_allowed is_permitted
alive_for_the_second = refl

there_and_back_alone : fitting all_kinds 0 ≡ false ∷ false ∷ true ∷ false ∷ false ∷ []
unfolding may_end is_usable is_alive is_link is_connected is_allowed is_permitted
there_and_back_alone = refl

-- the numbers of a fact are those of aircraft and activities
of_the_book : map (is_fact_of two_aircraft) (Bar 1 3 ∷ Must 1 3 ∷ Cut 0 3 ∷ Tie 3 0 ∷ []) ≡ true ∷ true ∷ true ∷ true ∷ []
of_the_book = refl

not_of_the_book : map (is_fact_of two_aircraft) (Bar 2 0 ∷ Bar 0 4 ∷ Must 2 0 ∷ Must 0 4 ∷ Cut 4 0 ∷ Cut 0 4 ∷ Tie 4 0 ∷ Tie 0 4 ∷ [])
    ≡ false ∷ false ∷ false ∷ false ∷ false ∷ false ∷ false ∷ false ∷ []
not_of_the_book = refl

-- what a plan does: 0 flies 0 and 1, and 1 flies 2 and 3
abbrev halves : List (List ℕ)
halves = (0 ∷ 1 ∷ []) ∷ (2 ∷ 3 ∷ []) ∷ []

flown_by_0 : map (flies halves 0) numbers ≡ true ∷ true ∷ false ∷ false ∷ []
flown_by_0 = refl

flown_by_none : map (flies halves 2) numbers ≡ false ∷ false ∷ false ∷ false ∷ []
flown_by_none = refl

joined_to_0 : map (joins halves 0) numbers ≡ false ∷ true ∷ false ∷ false ∷ []
joined_to_0 = refl

-- not across two routes, and not backwards
joined_to_1 : map (joins halves 1) numbers ≡ false ∷ false ∷ false ∷ false ∷ []
joined_to_1 = refl

-- and not over an activity between
not_over_1 : joins ((0 ∷ 1 ∷ 2 ∷ []) ∷ []) 0 2 ≡ false
not_over_1 = refl

in_a_later_route : joins halves 2 3 ≡ true
in_a_later_route = refl

bar_holds : Holds (Bar 1 0) halves
bar_holds = refl

must_holds : Holds (Must 0 1) halves
must_holds = refl

cut_holds : Holds (Cut 1 2) halves
cut_holds = refl

tie_holds : Holds (Tie 2 3) halves
tie_holds = refl

-- and what they say does not hold where the plan does otherwise
bar_fails : ¬ Holds (Bar 0 1) halves
bar_fails e = both_ways true e refl

must_fails : ¬ Holds (Must 0 2) halves
must_fails e = both_ways false refl e

cut_fails : ¬ Holds (Cut 2 3) halves
cut_fails e = both_ways true e refl

tie_fails : ¬ Holds (Tie 1 2) halves
tie_fails e = both_ways false refl e

-- the branches of a split, the first and the second
first_branches : map first_branch (Fly 0 1 ∷ Link 0 1 ∷ []) ≡ Must 0 1 ∷ Tie 0 1 ∷ []
first_branches = refl

second_branches : map second_branch (Fly 0 1 ∷ Link 0 1 ∷ []) ≡ Bar 0 1 ∷ Cut 0 1 ∷ []
second_branches = refl
