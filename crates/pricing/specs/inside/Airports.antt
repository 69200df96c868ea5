-- Airports as pricing has them: what ends there, their windows, and what waits there.
use Rattle.std.specs.Prelude.{ℕ, ℤ, ◌≡◌, ◌<◌, ◌+◌, Bool, false, true, List, Contains, length, slice_index_or}
use Rattle.std.specs.Int.{int_max}
use Rattle.tail_book.specs.Seen.{BookSeen}
use Rattle.tail_book.specs.declared.rules.Band.{Band}
use Rattle.tail_book.specs.Lookup.{activities, is_flight, to_port, kind_of, type_turn, port_turn}
use Rattle.branch_marks.specs.declared.fact.Fact.{Fact}
use Rattle.branch_marks.specs.declared.fact.Fact.TheVariants.{Must, Cut}
use Rattle.label_store.specs.Seen.{StoreSeen}
use Rattle.pricing.specs.declared.airport.AirportLines.{AirportLines}
use Rattle.pricing.specs.declared.stand.Stand.{Stand}
use Rattle.pricing.specs.inside.Waiting.{AreEntered, AreFlights, AreWindows, IsRoomy, IsWaiting}

-- ground time of the book at the airport
pub record IsGround (book : BookSeen) (port x : ℕ) : Type 0 where
  pub place : x < activities book
  pub there : to_port book x ≡ port
  pub ground : is_flight book x ≡ false

-- all ground time of the book at the airport, among activities of the book
pub record AreGrounds (book : BookSeen) (port : ℕ) (grounds : List ℕ) : Type 0 where
  pub places : (q : ℕ) → q < length grounds → slice_index_or grounds q 0 < activities book
  pub every : (x : ℕ) → IsGround book port x → Contains grounds x

-- the airport has what ends there and its windows, and room for what waits
pub record IsAirportOf (bands : List Band) (book : BookSeen) (port : ℕ) (airport : AirportLines) : Type 0 where
  pub flights : AreFlights book port airport.flights.items
  pub grounds : AreGrounds book port airport.grounds.items
  pub windows : AreWindows bands book.rules.counters port airport.windows.items
  pub roomy : IsRoomy book airport.windows.items airport.waiting
  pub count : length airport.entered.items ≡ length airport.windows.items

-- what waits there for an aircraft at its stand
pub record IsBusy (book : BookSeen) (marks : List Fact) (stand : Stand) (store : StoreSeen) (airport : AirportLines) : Type 0 where
  pub waiting : IsWaiting book marks stand airport.windows.items store airport.waiting
  pub entered : AreEntered book marks stand airport.windows.items airport.flights.items store airport.waiting airport.entered.items

-- an aircraft's stand at an airport
abbrev pub stand_at : BookSeen → ℕ → ℕ → ℤ → ℕ → Stand
stand_at book k floor moment port =
    record { port = port; floor = floor; turn = int_max (type_turn book (kind_of book k)) (port_turn book port); moment = moment }

-- the cuts that lead to an activity are noted
abbrev pub AreCutsNoted : List Fact → List Bool → Type 0
AreCutsNoted marks cut = (c d : ℕ) → Contains marks (Cut c d) → slice_index_or cut d false ≡ true

-- the number behind the last Must of aircraft k below b, and 0 where there is none
pub record IsFloor (marks : List Fact) (k b floor : ℕ) : Type 0 where
  pub musts : (c : ℕ) → c < b → Contains marks (Must k c) → c < floor
  pub least : (c : ℕ) → c + 1 ≡ floor → Contains marks (Must k c) × (c < b)

-- each airport of the book is one, under its number
pub record AreAirports (bands : List Band) (book : BookSeen) (airports : List AirportLines) : Type 0 where
  pub all : length airports ≡ length book.rules.airports
  pub each : (p : ℕ) (d : AirportLines) → p < length airports → IsAirportOf bands book p (slice_index_or airports p d)

-- so many of them are, the first ones
pub record AreAirportsTo (bands : List Band) (book : BookSeen) (n : ℕ) (airports : List AirportLines) : Type 0 where
  pub count : length airports ≡ n
  pub each : (p : ℕ) (d : AirportLines) → p < n → IsAirportOf bands book p (slice_index_or airports p d)

-- what waits at each for aircraft k, behind this floor and at this moment
abbrev pub AreBusy : BookSeen → List Fact → ℕ → ℕ → ℤ → StoreSeen → List AirportLines → Type 0
AreBusy book marks k floor moment store airports =
    (p : ℕ) (d : AirportLines) → p < length airports → IsBusy book marks (stand_at book k floor moment p) store (slice_index_or airports p d)

-- nothing waits at the airport, and nothing has entered its lines
pub record IsFreshAirport (airport : AirportLines) : Type 0 where
  pub rows : length airport.waiting.keys.rows ≡ 0
  pub labels : length airport.waiting.labels.items ≡ 0
  pub places : length airport.waiting.places.items ≡ 0
  pub none : (i : ℕ) → slice_index_or airport.entered.items i 0 ≡ 0

abbrev pub AreFresh : List AirportLines → Type 0
AreFresh airports = (p : ℕ) (d : AirportLines) → p < length airports → IsFreshAirport (slice_index_or airports p d)

-- one airport has what the other has, but for what waits there
pub record IsLikeAirport (old new : AirportLines) : Type 0 where
  pub flights : new.flights.items ≡ old.flights.items
  pub grounds : new.grounds.items ≡ old.grounds.items
  pub windows : new.windows.items ≡ old.windows.items
  pub width : new.waiting.keys.width ≡ old.waiting.keys.width
  pub nodes : length new.waiting.keys.buckets ≡ length old.waiting.keys.buckets
  pub count : length new.entered.items ≡ length old.entered.items

pub record AreAlike (old new : List AirportLines) : Type 0 where
  pub all : length new ≡ length old
  pub each : (p : ℕ) (d : AirportLines) → p < length old → IsLikeAirport (slice_index_or old p d) (slice_index_or new p d)
