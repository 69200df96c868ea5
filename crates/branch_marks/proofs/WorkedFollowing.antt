-- Floors and what follows, computed in the worked books. They show a floor as the least over several ways, and none
-- where a Must or the limit leaves no way; what is dead on arrival, and at a dead end; the only carrier; the dead
-- connection; that no Tie follows; and marks from which nothing more follows.
use Rattle.std.proofs.Common.{◌≡◌, ℕ, pos, Bool, true, false, List, [], ◌∷◌, map, refl, Some, None}
use Rattle.tail_book.specs.declared.place.Place.TheVariants.{Carry}
use Rattle.tail_book.specs.LegalTests.{is_allowed, is_link}
use Rattle.tail_book.specs.Link.{is_connected}
use Rattle.tail_book.specs.Allowed.{is_permitted}
use Rattle.branch_marks.specs.declared.fact.Fact.{Fact}
use Rattle.branch_marks.specs.declared.fact.Fact.TheVariants.{Bar, Must, Cut, Tie}
use Rattle.branch_marks.specs.FactTests.{has_fact}
use Rattle.branch_marks.specs.MarkTests.{is_alive, is_usable, may_end}
use Rattle.branch_marks.specs.Floors.{floors, floor_at}
use Rattle.branch_marks.specs.FollowingTests.{is_dead, is_only_carrier, is_dead_connection, follows, is_shut}
use Rattle.branch_marks.proofs.WorkedBook.{two_aircraft, counted, turning}

-- which Bars of aircraft 0, and which Cuts, follow in the book of four flights
abbrev bars : ℕ → List Fact → List Bool
bars limit marks = map (follows (counted limit) marks) (Bar 0 0 ∷ Bar 0 1 ∷ Bar 0 2 ∷ Bar 0 3 ∷ [])

abbrev cuts : ℕ → List Fact → List Bool
cuts limit marks = map (follows (counted limit) marks) (Cut 0 1 ∷ Cut 0 3 ∷ Cut 1 2 ∷ Cut 2 3 ∷ Cut 0 2 ∷ [])

-- the least of the ways: to 2 from the carry-in, not over 0 and 1; to 3 from 0 or 2
least_of_the_ways : floors (counted 120) [] 0 ≡ Some (pos 60 ∷ []) ∷ Some (pos 120 ∷ []) ∷ Some (pos 60 ∷ []) ∷ Some (pos 120 ∷ []) ∷ []
unfolding is_usable is_alive is_link is_connected is_allowed is_permitted
least_of_the_ways = refl

floor_at_the_carry_in : floor_at (counted 120) [] 0 Carry ≡ Some (pos 0 ∷ [])
floor_at_the_carry_in = refl

-- with 1 to be flown, 2 is reached over it alone, past the limit, and so is 3
no_way_on : floors (counted 120) (Must 0 1 ∷ []) 0 ≡ Some (pos 60 ∷ []) ∷ Some (pos 120 ∷ []) ∷ None ∷ None ∷ []
unfolding is_usable is_alive is_link is_connected is_allowed is_permitted
no_way_on = refl

-- a minute less: 1 and 3 can no longer be the second flight
past_the_limit : floors (counted 119) [] 0 ≡ Some (pos 60 ∷ []) ∷ None ∷ Some (pos 60 ∷ []) ∷ None ∷ []
unfolding is_usable is_alive is_link is_connected is_allowed is_permitted
past_the_limit = refl

-- dead on arrival
none_dead : bars 120 [] ≡ false ∷ false ∷ false ∷ false ∷ []
unfolding is_dead is_usable is_alive may_end is_link is_connected is_allowed is_permitted
none_dead = refl

dead_on_arrival : bars 120 (Must 0 1 ∷ []) ≡ false ∷ false ∷ true ∷ true ∷ []
unfolding is_dead is_usable is_alive may_end is_link is_connected is_allowed is_permitted
dead_on_arrival = refl

-- what is barred is not alive, and is not barred once more
barred_once : bars 120 (Must 0 1 ∷ Bar 0 2 ∷ Bar 0 3 ∷ []) ≡ false ∷ false ∷ false ∷ false ∷ []
unfolding is_dead is_usable is_alive may_end is_link is_connected is_allowed is_permitted
barred_once = refl

-- dead end: no end at 2, where a Tie begins, and its other end lies past the limit
dead_end : bars 119 (Tie 2 3 ∷ []) ≡ false ∷ true ∷ true ∷ true ∷ []
unfolding is_dead is_usable is_alive may_end is_link is_connected is_allowed is_permitted
dead_end = refl

open_end : bars 119 (Cut 2 3 ∷ []) ≡ false ∷ true ∷ false ∷ true ∷ []
unfolding is_dead is_usable is_alive may_end is_link is_connected is_allowed is_permitted
open_end = refl

-- the only carrier: 0 is left to aircraft 0
two_carriers : follows two_aircraft [] (Must 0 0) ≡ false
unfolding is_only_carrier is_alive is_allowed is_permitted
two_carriers = refl

only_carrier : follows two_aircraft (Bar 1 0 ∷ []) (Must 0 0) ≡ true
unfolding is_only_carrier is_alive is_allowed is_permitted
only_carrier = refl

no_carrier : follows two_aircraft (Bar 1 0 ∷ []) (Must 1 0) ≡ false
unfolding is_only_carrier is_alive is_allowed is_permitted
no_carrier = refl

carrier_is_named : follows two_aircraft (Must 0 0 ∷ []) (Must 0 0) ≡ false
unfolding is_only_carrier is_alive is_allowed is_permitted
carrier_is_named = refl

-- dead connection: 1 and 3 lie past the limit as second flights, and 2 cannot come behind 1; 0 and 2 have no link
no_dead_connection : cuts 120 [] ≡ false ∷ false ∷ true ∷ false ∷ false ∷ []
unfolding is_dead_connection is_usable is_alive is_link is_connected is_allowed is_permitted
no_dead_connection = refl

dead_connections : cuts 119 [] ≡ true ∷ true ∷ true ∷ true ∷ false ∷ []
unfolding is_dead_connection is_usable is_alive is_link is_connected is_allowed is_permitted
dead_connections = refl

cut_already : cuts 119 (Cut 0 1 ∷ []) ≡ false ∷ true ∷ true ∷ true ∷ false ∷ []
unfolding is_dead_connection is_usable is_alive is_link is_connected is_allowed is_permitted
cut_already = refl

-- a Tie never follows
no_tie_follows : map (follows (counted 119) []) (Tie 0 1 ∷ Tie 1 2 ∷ []) ≡ false ∷ false ∷ []
no_tie_follows = refl

-- a turn a minute too long: the second flight is dead on arrival, the first is left to its only carrier, and that is all
second_is_dead : map (follows (turning 31) []) (Bar 0 0 ∷ Bar 0 1 ∷ []) ≡ false ∷ true ∷ []
unfolding is_dead is_usable is_alive may_end is_link is_connected is_allowed is_permitted
second_is_dead = refl

first_is_left : follows (turning 31) (Bar 0 1 ∷ []) (Must 0 0) ≡ true
unfolding is_only_carrier is_alive is_allowed is_permitted
first_is_left = refl

not_yet_shut : is_shut (turning 31) (Bar 0 1 ∷ []) ≡ false
unfolding is_dead is_only_carrier is_dead_connection is_usable is_alive may_end is_link is_connected is_allowed is_permitted
not_yet_shut = refl

then_shut : is_shut (turning 31) (Bar 0 1 ∷ Must 0 0 ∷ []) ≡ true
unfolding is_dead is_only_carrier is_dead_connection is_usable is_alive may_end is_link is_connected is_allowed is_permitted
then_shut = refl

hole_at_the_second : is_alive (turning 31) (Bar 0 1 ∷ Must 0 0 ∷ []) 0 1 ≡ false
unfolding is_alive is_allowed is_permitted
hole_at_the_second = refl

-- marks have what stands in them, whatever the kind and the numbers
had : map (has_fact (Bar 0 1 ∷ Cut 1 2 ∷ [])) (Bar 0 1 ∷ Cut 1 2 ∷ Must 0 1 ∷ Bar 1 0 ∷ Tie 1 2 ∷ []) ≡ true ∷ true ∷ false ∷ false ∷ false ∷ []
had = refl
