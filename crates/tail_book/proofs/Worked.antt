-- Worked books: the definitions computed on books whose answers are known from outside.
--
-- Turns, stops, limits and curfews stand at the minute where the answer changes and beside it; costs, bands, landings,
-- days since a check and preassigned flights are worked on a book of a few activities each.
use Rattle.std.proofs.Common.{◌≡◌, ℕ, ℤ, pos, ◌+◌, ◌+ℤ◌, true, false, List, [], ◌∷◌, Option, Some, None, refl}
use Rattle.std.specs.Prelude.{codes}
use Rattle.tail_book.specs.Seen.{ActivitySeen, TailSeen, CurfewSeen, CounterSeen, RulesSeen, BookSeen}
use Rattle.tail_book.specs.declared.place.Place.TheVariants.{Carry, After}
use Rattle.tail_book.specs.declared.rules.AircraftType.{AircraftType}
use Rattle.tail_book.specs.declared.rules.Band.{Band}
use Rattle.tail_book.specs.declared.rules.CounterKind.{CounterKind}
use Rattle.tail_book.specs.declared.rules.CounterKind.TheVariants.{Minutes, Landings, Days}
use Rattle.tail_book.specs.inside.Along.{counters_along}
use Rattle.tail_book.specs.Counters.{step}
use Rattle.tail_book.specs.Cost.{plan_cost}
use Rattle.tail_book.specs.CostTable.{activity_cost_in, box_end, costs_of, plan_cost_in}
use Rattle.tail_book.specs.Curfew.{is_curfewed}
use Rattle.tail_book.specs.Link.{gap, is_connected}
use Rattle.tail_book.specs.inside.Route.{counters_after}
use Rattle.tail_book.specs.LegalTests.{is_allowed, is_legal_plan, is_legal_route, is_link}
use Rattle.tail_book.specs.Allowed.{is_permitted}

-- a minute of 2025-03-03 UTC
abbrev at : ℕ → ℤ
at minute = pos (29_016_000 + minute)

-- the airports are Arlanda, 0, and Oslo, 1
abbrev flown : List ℕ → ℕ → ℕ → ℕ → ℕ → Option ℕ → ActivitySeen
flown id from to start end tail = record { id = id; flight = true; from = from; to = to; start = at start; end = at end; types = []; tags = []; tail = tail; resets = [] }

abbrev flight : List ℕ → ℕ → ℕ → ℕ → ℕ → ActivitySeen
flight id from to start end = flown id from to start end None

abbrev aircraft_of : List ℕ → ℕ → ℕ → ℕ → ℕ → List ℤ → TailSeen
aircraft_of name kind port ready fixed carry = record { name = name; kind = kind; at = port; ready = at ready; fixed = fixed; tags = []; avoid = []; carry = carry }

abbrev kind_with : List ℕ → ℕ → ℕ → AircraftType
kind_with name rate turn = record { name = name; rate = rate; turn = pos turn }

abbrev rules_of : List AircraftType → List CurfewSeen → List CounterSeen → List Band → RulesSeen
rules_of kinds curfews counters bands = record {
  kinds = kinds;
  airports = (record { name = codes "ARN"; offset = pos 60; changes = []; turn = pos 20 }) ∷ (record { name = codes "OSL"; offset = pos 60; changes = []; turn = pos 20 }) ∷ [];
  curfews = curfews;
  counters = counters;
  bands = bands;
}

abbrev counter_of : List ℕ → CounterKind → ℕ → CounterSeen
counter_of name kind limit = record { name = name; kind = kind; limit = pos limit; bases = 0 ∷ []; stop = pos 60 }

abbrev there_and_back : List ActivitySeen
there_and_back = flight (codes "F1") 0 1 360 420 ∷ flight (codes "F2") 1 0 450 510 ∷ []

abbrev one_aircraft : List ℤ → List TailSeen
one_aircraft carry = aircraft_of (codes "A1") 0 0 300 0 carry ∷ []

-- two flights, with a gap that is exactly the turn
abbrev turning : ℕ → BookSeen
turning turn = record { activities = there_and_back; tails = one_aircraft []; rules = rules_of (kind_with (codes "P") 1 turn ∷ []) [] [] [] }

gap_is_exactly_the_turn : is_legal_plan (turning 30) ((0 ∷ 1 ∷ []) ∷ []) ≡ true
unfolding is_link is_connected is_allowed is_permitted
gap_is_exactly_the_turn = refl

turned_cost : plan_cost (turning 30) ((0 ∷ 1 ∷ []) ∷ []) ≡ 120
turned_cost = refl

nothing_left_out : is_legal_plan (turning 30) ((0 ∷ []) ∷ []) ≡ false
unfolding is_link is_connected is_allowed is_permitted
nothing_left_out = refl

-- numbers past the end: neither an activity nor an aircraft that the book does not have is allowed or linked
no_such_activity_is_allowed : is_allowed (turning 30) 0 2 ≡ false
unfolding is_link is_connected is_allowed is_permitted
no_such_activity_is_allowed = refl

no_such_aircraft_is_allowed : is_allowed (turning 30) 1 0 ≡ false
unfolding is_link is_connected is_allowed is_permitted
no_such_aircraft_is_allowed = refl

no_link_to_no_such_activity : is_link (turning 30) 0 Carry 5 ≡ false
unfolding is_link is_connected is_allowed is_permitted
no_link_to_no_such_activity = refl

no_link_from_no_such_activity : is_link (turning 30) 0 (After 2) 1 ≡ false
unfolding is_link is_connected is_allowed is_permitted
no_link_from_no_such_activity = refl

no_link_of_no_such_aircraft : is_link (turning 30) 1 Carry 0 ≡ false
unfolding is_link is_connected is_allowed is_permitted
no_link_of_no_such_aircraft = refl

-- two activities of at most two million each, and one more, in thousandths
box_of_two_activities : box_end (costs_of (turning 30)) ≡ 4_000_001_000
box_of_two_activities = refl

-- a turn a minute longer
turn_is_missed : is_link (turning 31) 0 (After 0) 1 ≡ false
unfolding is_link is_connected is_allowed is_permitted
turn_is_missed = refl

missed_plan : is_legal_plan (turning 31) ((0 ∷ 1 ∷ []) ∷ []) ≡ false
unfolding is_link is_connected is_allowed is_permitted
missed_plan = refl

-- two flights at once, and a type that costs twice as much a minute
abbrev rates : BookSeen
rates = record {
  activities = flight (codes "F1") 0 1 360 420 ∷ flight (codes "F2") 0 1 360 480 ∷ [];
  tails = aircraft_of (codes "A1") 0 0 300 0 [] ∷ aircraft_of (codes "A2") 1 0 300 0 [] ∷ [];
  rules = rules_of (kind_with (codes "P") 1 30 ∷ kind_with (codes "Q") 2 30 ∷ []) [] [] [];
}

cheaper_plan : is_legal_plan rates ((1 ∷ []) ∷ (0 ∷ []) ∷ []) ≡ true
unfolding is_link is_connected is_allowed is_permitted
cheaper_plan = refl

cheaper_cost : plan_cost rates ((1 ∷ []) ∷ (0 ∷ []) ∷ []) ≡ 240
cheaper_cost = refl

dearer_cost : plan_cost rates ((0 ∷ []) ∷ (1 ∷ []) ∷ []) ≡ 300
dearer_cost = refl

-- the first aircraft's costs, and then the second's
table_of_rates : (costs_of rates).fly ≡ 60 ∷ 120 ∷ 120 ∷ 240 ∷ []
table_of_rates = refl

second_aircraft_entry : activity_cost_in (costs_of rates) 1 0 ≡ 120
second_aircraft_entry = refl

cheaper_cost_in_table : plan_cost_in (costs_of rates) rates ((1 ∷ []) ∷ (0 ∷ []) ∷ []) ≡ 240
cheaper_cost_in_table = refl

not_both_at_once : is_legal_plan rates ((0 ∷ 1 ∷ []) ∷ [] ∷ []) ≡ false
unfolding is_link is_connected is_allowed is_permitted
not_both_at_once = refl

-- minutes flown, cleared by an hour at Arlanda
abbrev hours : ℕ → ℕ → BookSeen
hours limit third = record {
  activities = flight (codes "F1") 0 1 360 420 ∷ flight (codes "F2") 1 0 450 510 ∷ flight (codes "F3") 0 1 third (third + 60) ∷ flight (codes "F4") 1 0 660 720 ∷ [];
  tails = one_aircraft (pos 0 ∷ []);
  rules = rules_of (kind_with (codes "P") 1 30 ∷ []) [] (counter_of (codes "fh") Minutes limit ∷ []) [];
}

counted_once : counters_after (hours 120 570) 0 (0 ∷ []) ≡ pos 60 ∷ []
counted_once = refl

counted_twice : counters_after (hours 120 570) 0 (0 ∷ 1 ∷ []) ≡ pos 120 ∷ []
counted_twice = refl

cleared_at_base : counters_after (hours 120 570) 0 (0 ∷ 1 ∷ 2 ∷ []) ≡ pos 60 ∷ []
cleared_at_base = refl

counted_again : counters_after (hours 120 570) 0 (0 ∷ 1 ∷ 2 ∷ 3 ∷ []) ≡ pos 120 ∷ []
counted_again = refl

-- along the same route: at the carry-in, and after its first and second activity
along_at_carry_in : counters_along (hours 120 570) 0 (0 ∷ 1 ∷ 2 ∷ 3 ∷ []) 0 ≡ pos 0 ∷ []
along_at_carry_in = refl

along_after_one : counters_along (hours 120 570) 0 (0 ∷ 1 ∷ 2 ∷ 3 ∷ []) 1 ≡ pos 60 ∷ []
along_after_one = refl

along_after_two : counters_along (hours 120 570) 0 (0 ∷ 1 ∷ 2 ∷ 3 ∷ []) 2 ≡ pos 120 ∷ []
along_after_two = refl

cleared_plan : is_legal_plan (hours 120 570) ((0 ∷ 1 ∷ 2 ∷ 3 ∷ []) ∷ []) ≡ true
unfolding is_link is_connected is_allowed is_permitted
cleared_plan = refl

cleared_cost : plan_cost (hours 120 570) ((0 ∷ 1 ∷ 2 ∷ 3 ∷ []) ∷ []) ≡ 240
cleared_cost = refl

-- a minute less on the ground
stop_is_short : counters_after (hours 120 569) 0 (0 ∷ 1 ∷ 2 ∷ []) ≡ pos 180 ∷ []
stop_is_short = refl

short_stop_plan : is_legal_plan (hours 120 569) ((0 ∷ 1 ∷ 2 ∷ 3 ∷ []) ∷ []) ≡ false
unfolding is_link is_connected is_allowed is_permitted
short_stop_plan = refl

-- a limit one minute lower
limit_is_passed : is_legal_route (hours 119 570) 0 (0 ∷ 1 ∷ []) ≡ false
unfolding is_link is_connected is_allowed is_permitted
limit_is_passed = refl

limit_is_met : is_legal_route (hours 120 570) 0 (0 ∷ 1 ∷ []) ≡ true
unfolding is_link is_connected is_allowed is_permitted
limit_is_met = refl

-- a check in Oslo that resets the days since the last one
abbrev checked : List ℕ → BookSeen
checked resets = record {
  activities =
      (record { id = codes "G1"; flight = false; from = 1; to = 1; start = at 600; end = at 720; types = []; tags = []; tail = Some 0; resets = resets })
      ∷ flight (codes "F1") 1 0 750 810
      ∷ [];
  tails = aircraft_of (codes "A1") 0 1 0 7 (pos 1000 ∷ []) ∷ [];
  rules = rules_of (kind_with (codes "P") 1 30 ∷ []) [] (counter_of (codes "chk") Days 1440 ∷ []) [];
}

-- the calendar ran on: 1,600 minutes at 10:00, and 120 more in the check
days_at_its_start : pos 1000 +ℤ gap (checked []) 0 Carry 0 ≡ pos 1600
days_at_its_start = refl

days_run_on : step (checked []) 0 Carry 0 (pos 1000 ∷ []) ≡ pos 1720 ∷ []
days_run_on = refl

check_resets : step (checked (0 ∷ [])) 0 Carry 0 (pos 1000 ∷ []) ≡ pos 0 ∷ []
check_resets = refl

days_after_check : step (checked (0 ∷ [])) 0 (After 0) 1 (pos 0 ∷ []) ≡ pos 90 ∷ []
days_after_check = refl

checked_plan : is_legal_plan (checked (0 ∷ [])) ((0 ∷ 1 ∷ []) ∷ []) ≡ true
unfolding is_link is_connected is_allowed is_permitted
checked_plan = refl

checked_cost : plan_cost (checked (0 ∷ [])) ((0 ∷ 1 ∷ []) ∷ []) ≡ 74
checked_cost = refl

unchecked_plan : is_legal_plan (checked []) ((0 ∷ 1 ∷ []) ∷ []) ≡ false
unfolding is_link is_connected is_allowed is_permitted
unchecked_plan = refl

-- no landing at Arlanda from 23:00 to 06:00 of local time, an hour ahead
abbrev night : ℕ → BookSeen
night landing = record {
  activities = (record { id = codes "F1"; flight = true; from = 1; to = 0; start = pos (29_015_940 + landing); end = at landing; types = []; tags = []; tail = None; resets = [] }) ∷ [];
  tails = aircraft_of (codes "A1") 0 1 0 0 [] ∷ [];
  rules = rules_of (kind_with (codes "P") 1 30 ∷ []) ((record { airport = 0; from = pos 1380; to = pos 360; types = []; starts = false; landings = true }) ∷ []) [] [];
}

lands_before_night : is_curfewed (night 1319) 0 0 ≡ false
lands_before_night = refl

lands_as_night_begins : is_curfewed (night 1320) 0 0 ≡ true
lands_as_night_begins = refl

lands_as_night_ends : is_curfewed (night 299) 0 0 ≡ true
lands_as_night_ends = refl

lands_after_night : is_curfewed (night 300) 0 0 ≡ false
lands_after_night = refl

early_plan : is_legal_plan (night 1319) ((0 ∷ []) ∷ []) ≡ true
unfolding is_link is_connected is_allowed is_permitted
early_plan = refl

early_cost : plan_cost (night 1319) ((0 ∷ []) ∷ []) ≡ 60
early_cost = refl

night_plan : is_legal_plan (night 1320) ((0 ∷ []) ∷ []) ≡ false
unfolding is_link is_connected is_allowed is_permitted
night_plan = refl

-- landings, and bands: the cheap way through the ground time leaves no landing for the last flight
abbrev landings : BookSeen
landings = record {
  activities =
      flown (codes "F1") 0 1 360 420 (Some 0)
      ∷ flown (codes "F2") 1 0 450 510 (Some 0)
      ∷ (record { id = codes "G1"; flight = false; from = 0; to = 0; start = at 540; end = at 585; types = []; tags = []; tail = None; resets = [] })
      ∷ flown (codes "F5") 0 1 600 660 (Some 0)
      ∷ flown (codes "F6") 1 0 690 750 (Some 0)
      ∷ [];
  tails = aircraft_of (codes "A1") 0 0 300 0 (pos 0 ∷ []) ∷ aircraft_of (codes "A2") 0 0 300 0 (pos 0 ∷ []) ∷ [];
  rules = rules_of (kind_with (codes "P") 1 30 ∷ []) [] (counter_of (codes "ldg") Landings 3 ∷ [])
      ((record { upto = pos 59; cost = 0 }) ∷ (record { upto = pos 10_000_000; cost = 500 }) ∷ []);
}

dear_connection : is_legal_plan landings ((0 ∷ 1 ∷ 3 ∷ 4 ∷ []) ∷ (2 ∷ []) ∷ []) ≡ true
unfolding is_link is_connected is_allowed is_permitted
dear_connection = refl

dear_connection_cost : plan_cost landings ((0 ∷ 1 ∷ 3 ∷ 4 ∷ []) ∷ (2 ∷ []) ∷ []) ≡ 740
dear_connection_cost = refl

dear_connection_cost_in_table : plan_cost_in (costs_of landings) landings ((0 ∷ 1 ∷ 3 ∷ 4 ∷ []) ∷ (2 ∷ []) ∷ []) ≡ 740
dear_connection_cost_in_table = refl

fourth_landing : counters_after landings 0 (0 ∷ 1 ∷ 2 ∷ 3 ∷ 4 ∷ []) ≡ pos 4 ∷ []
fourth_landing = refl

cheap_connection : is_legal_plan landings ((0 ∷ 1 ∷ 2 ∷ 3 ∷ 4 ∷ []) ∷ [] ∷ []) ≡ false
unfolding is_link is_connected is_allowed is_permitted
cheap_connection = refl

-- two flights at once, each preassigned
abbrev preassigned_flights : BookSeen
preassigned_flights = record {
  activities = flown (codes "FA") 0 1 360 420 (Some 1) ∷ flown (codes "FB") 0 1 360 420 (Some 0) ∷ [];
  tails = aircraft_of (codes "A1") 0 0 300 0 [] ∷ aircraft_of (codes "A2") 0 0 300 0 [] ∷ [];
  rules = rules_of (kind_with (codes "P") 1 30 ∷ []) [] [] [];
}

each_its_own : is_legal_plan preassigned_flights ((1 ∷ []) ∷ (0 ∷ []) ∷ []) ≡ true
unfolding is_link is_connected is_allowed is_permitted
each_its_own = refl

each_its_own_cost : plan_cost preassigned_flights ((1 ∷ []) ∷ (0 ∷ []) ∷ []) ≡ 120
each_its_own_cost = refl

swapped : is_legal_plan preassigned_flights ((0 ∷ []) ∷ (1 ∷ []) ∷ []) ≡ false
unfolding is_link is_connected is_allowed is_permitted
swapped = refl
