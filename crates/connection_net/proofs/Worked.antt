-- Worked networks: the definitions computed on books whose links are known from outside. They show a turn that fits to
-- the minute and one that misses by a minute, ground time, beside which no turn is asked for, a link that one aircraft
-- of two has, two flights that no aircraft may both fly, and books without activities or without aircraft.
use Rattle.std.proofs.Common.{◌≡◌, ℕ, ℤ, pos, ◌+◌, true, false, Bool, List, [], ◌∷◌, Option, Some, None, refl}
use Rattle.std.specs.Prelude.{codes}
use Rattle.tail_book.specs.Seen.{ActivitySeen, TailSeen, RulesSeen, BookSeen}
use Rattle.tail_book.specs.declared.rules.AircraftType.{AircraftType}
use Rattle.tail_book.specs.LegalTests.{is_allowed, is_link}
use Rattle.tail_book.specs.Link.{is_connected}
use Rattle.tail_book.specs.Allowed.{is_permitted}
use Rattle.connection_net.specs.Net.{net_of, successors_of, predecessors_of, heads_of}

-- a minute of 2025-03-03 UTC
abbrev at : ℕ → ℤ
at minute = pos (29_016_000 + minute)

-- the airports are Arlanda, 0, and Oslo, 1; types may fly where the list is empty or has them
abbrev activity : Bool → List ℕ → ℕ → ℕ → ℕ → ℕ → List ℕ → Option ℕ → ActivitySeen
activity flight id from to start end types tail = record { id = id; flight = flight; from = from; to = to; start = at start; end = at end; types = types; tags = []; tail = tail; resets = [] }

abbrev aircraft_of : List ℕ → ℕ → ℕ → ℕ → TailSeen
aircraft_of name kind port ready = record { name = name; kind = kind; at = port; ready = at ready; fixed = 0; tags = []; avoid = []; carry = [] }

abbrev kind_with : List ℕ → ℕ → AircraftType
kind_with name turn = record { name = name; rate = 1; turn = pos turn }

abbrev rules_of : List AircraftType → RulesSeen
rules_of kinds = record {
  kinds = kinds;
  airports = (record { name = codes "ARN"; offset = pos 60; changes = []; turn = pos 20 }) ∷ (record { name = codes "OSL"; offset = pos 60; changes = []; turn = pos 20 }) ∷ [];
  curfews = [];
  counters = [];
  bands = [];
}

abbrev there : ActivitySeen
there = activity true (codes "F1") 0 1 360 420 [] None

abbrev back : ActivitySeen
back = activity true (codes "F2") 1 0 450 510 [] None

-- there and back with a stop of 30 minutes, and an aircraft that is ready in time
abbrev turning : ℕ → BookSeen
turning turn = record { activities = there ∷ back ∷ []; tails = aircraft_of (codes "A1") 0 0 300 ∷ []; rules = rules_of (kind_with (codes "P") turn ∷ []) }

turn_fits : net_of (turning 30) ≡ record { successors = (1 ∷ []) ∷ [] ∷ []; predecessors = [] ∷ (0 ∷ []) ∷ []; heads = (0 ∷ []) ∷ [] }
unfolding net_of successors_of predecessors_of heads_of is_link is_connected is_allowed is_permitted
turn_fits = refl

turn_is_missed : net_of (turning 31) ≡ record { successors = [] ∷ [] ∷ []; predecessors = [] ∷ [] ∷ []; heads = (0 ∷ []) ∷ [] }
unfolding net_of successors_of predecessors_of heads_of is_link is_connected is_allowed is_permitted
turn_is_missed = refl

-- beside ground time no turn is asked for
abbrev checked : BookSeen
checked = record (turning 31) { activities = there ∷ activity false (codes "G1") 1 1 420 450 [] None ∷ back ∷ [] }

no_turn_on_the_ground : net_of checked ≡ record { successors = (1 ∷ []) ∷ (2 ∷ []) ∷ [] ∷ []; predecessors = [] ∷ (0 ∷ []) ∷ (1 ∷ []) ∷ []; heads = (0 ∷ []) ∷ [] }
unfolding net_of successors_of predecessors_of heads_of is_link is_connected is_allowed is_permitted
no_turn_on_the_ground = refl

-- a link of one aircraft is one of the network, though the other's turn is too long; both are ready a minute late but for the second
abbrev two_types : List ActivitySeen → BookSeen
two_types flights = record {
  activities = flights;
  tails = aircraft_of (codes "A1") 0 0 361 ∷ aircraft_of (codes "A2") 1 0 360 ∷ [];
  rules = rules_of (kind_with (codes "P") 31 ∷ kind_with (codes "Q") 30 ∷ []);
}

one_aircraft_is_enough : net_of (two_types (there ∷ back ∷ [])) ≡ record { successors = (1 ∷ []) ∷ [] ∷ []; predecessors = [] ∷ (0 ∷ []) ∷ []; heads = [] ∷ (0 ∷ []) ∷ [] }
unfolding net_of successors_of predecessors_of heads_of is_link is_connected is_allowed is_permitted
one_aircraft_is_enough = refl

-- each end has an aircraft that may fly it, and no aircraft may fly both
nobody_flies_both : net_of (two_types (activity true (codes "F1") 0 1 360 420 [] (Some 0) ∷ activity true (codes "F2") 1 0 480 540 [] (Some 1) ∷ []))
    ≡ record { successors = [] ∷ [] ∷ []; predecessors = [] ∷ [] ∷ []; heads = [] ∷ [] ∷ [] }
unfolding net_of successors_of predecessors_of heads_of is_link is_connected is_allowed is_permitted
nobody_flies_both = refl

-- and the aircraft whose turn fits may not fly the second
turn_of_another : net_of (two_types (there ∷ activity true (codes "F2") 1 0 450 510 (0 ∷ []) None ∷ []))
    ≡ record { successors = [] ∷ [] ∷ []; predecessors = [] ∷ [] ∷ []; heads = [] ∷ (0 ∷ []) ∷ [] }
unfolding net_of successors_of predecessors_of heads_of is_link is_connected is_allowed is_permitted
turn_of_another = refl

-- nothing to fly, and nobody to fly it
no_activities : net_of (record (turning 30) { activities = [] }) ≡ record { successors = []; predecessors = []; heads = [] ∷ [] }
unfolding net_of successors_of predecessors_of heads_of is_link is_connected is_allowed is_permitted
no_activities = refl

no_aircraft : net_of (record (turning 30) { tails = [] }) ≡ record { successors = [] ∷ [] ∷ []; predecessors = [] ∷ [] ∷ []; heads = [] }
unfolding net_of successors_of predecessors_of heads_of is_link is_connected is_allowed is_permitted
no_aircraft = refl
