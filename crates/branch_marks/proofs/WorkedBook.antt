-- Books small enough to be worked by hand. The first has two aircraft at Arlanda and four flights there and back; the
-- others have what one rule needs each: a limit on minutes flown, a turn, two flights at once at two rates, a band.
use Rattle.std.proofs.Common.{ℕ, ℤ, pos, ◌+◌, true, List, [], ◌∷◌, None}
use Rattle.std.specs.Prelude.{codes}
use Rattle.tail_book.specs.Seen.{ActivitySeen, TailSeen, AirportSeen, CounterSeen, BookSeen}
use Rattle.tail_book.specs.declared.rules.AircraftType.{AircraftType}
use Rattle.tail_book.specs.declared.rules.Band.{Band}
use Rattle.tail_book.specs.declared.rules.CounterKind.TheVariants.{Minutes}

-- a flight of an hour, from the hour of the day; the airports are Arlanda, 0, and Oslo, 1
abbrev pub flight : List ℕ → ℕ → ℕ → ℕ → ActivitySeen
flight id from to start = record { id = id; flight = true; from = from; to = to; start = pos start; end = pos (start + 60); types = []; tags = []; tail = None; resets = [] }

-- from six in the morning on, with half an hour on the ground after each
abbrev pub flights : List ActivitySeen
flights = flight (codes "F1") 0 1 360 ∷ flight (codes "F2") 1 0 450 ∷ flight (codes "F3") 0 1 540 ∷ flight (codes "F4") 1 0 630 ∷ []

abbrev pub aircraft_with : List ℕ → ℕ → List ℤ → TailSeen
aircraft_with name kind carry = record { name = name; kind = kind; at = 0; ready = pos 300; fixed = 0; tags = []; avoid = []; carry = carry }

abbrev pub aircraft_of : List ℕ → ℕ → TailSeen
aircraft_of name kind = aircraft_with name kind []

-- the second type costs twice as much a minute
abbrev pub kinds : List AircraftType
kinds = record { name = codes "P"; rate = 1; turn = pos 30 } ∷ record { name = codes "Q"; rate = 2; turn = pos 30 } ∷ []

abbrev pub airports : List AirportSeen
airports = record { name = codes "ARN"; offset = pos 60; changes = []; turn = pos 20 } ∷ record { name = codes "OSL"; offset = pos 60; changes = []; turn = pos 20 } ∷ []

abbrev pub book_with : List ActivitySeen → List TailSeen → List CounterSeen → List Band → BookSeen
book_with activities tails counters bands = record {
  activities = activities;
  tails = tails;
  rules = record { kinds = kinds; airports = airports; curfews = []; counters = counters; bands = bands };
}

-- the four flights, and two aircraft that both may fly all of them: 0 to 1 or 3, 1 to 2, 2 to 3, and both begin with 0 or 2
abbrev pub two_aircraft : BookSeen
two_aircraft = book_with flights (aircraft_of (codes "A1") 0 ∷ aircraft_of (codes "A2") 0 ∷ []) [] []

-- the same flights and one aircraft, whose minutes flown are limited; no stop between them is long enough to clear the counter
abbrev pub counted : ℕ → BookSeen
counted limit =
    book_with flights (aircraft_with (codes "A1") 0 (pos 0 ∷ []) ∷ [])
    (record { name = codes "fh"; kind = Minutes; limit = pos limit; bases = 0 ∷ []; stop = pos 60 } ∷ []) []

-- the first two flights, one aircraft, and a turn that may be longer than the half hour between them
abbrev pub turning : ℕ → BookSeen
turning turn = record {
  activities = flight (codes "F1") 0 1 360 ∷ flight (codes "F2") 1 0 450 ∷ [];
  tails = aircraft_of (codes "A1") 0 ∷ [];
  rules = record { kinds = record { name = codes "P"; rate = 1; turn = pos turn } ∷ []; airports = airports; curfews = []; counters = []; bands = [] };
}

-- two flights at once, of an hour and of two, and two aircraft of which the second costs twice as much a minute
abbrev pub rates : BookSeen
rates = book_with (flight (codes "F1") 0 1 360 ∷ record (flight (codes "F2") 0 1 360) { end = pos 480 } ∷ []) (aircraft_of (codes "A1") 0 ∷ aircraft_of (codes "A2") 1 ∷ []) [] []

-- the four flights again, with a band that charges a connection of up to half an hour
abbrev pub banded : BookSeen
banded = book_with flights (aircraft_of (codes "A1") 0 ∷ []) [] (record { upto = pos 30; cost = 7 } ∷ [])
