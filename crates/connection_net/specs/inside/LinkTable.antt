-- What is read of a book to find its links: a row for each activity, and who turns in how many minutes.
use Rattle.std.specs.Prelude.{ℕ, ℤ, pos, ◌+ℤ◌, ◌≡◌, ◌<◌, List, Bool, false, ◌&&◌, IsTrue, Option, None, Some, if◌then◌else◌, length, map, nat_eq, nat_lt, slice_index_or}
use Rattle.std.specs.Int.{int_max}
use Rattle.std.specs.List.{filter, range_with_len}
use Rattle.tail_book.specs.Seen.{BookSeen}
use Rattle.tail_book.specs.Lookup.{activities, aircraft, is_flight, from_port, to_port, start_of, end_of, kind_of, type_turn, port_turn}
use Rattle.tail_book.specs.Numbers.{int_le}
use Rattle.tail_book.specs.Ranges.{IsWithin}
use Rattle.tail_book.specs.inside.Sound.{IsMoment}
use Rattle.tail_book.specs.LegalTests.{is_allowed}
use Rattle.connection_net.specs.declared.aircraft_set.AircraftSet.{AircraftSet}
use Rattle.connection_net.specs.declared.link_table.Leg.{Leg}
use Rattle.connection_net.specs.declared.link_table.LinkTable.{LinkTable}
use Rattle.connection_net.specs.inside.AircraftSet.{has}

-- what stands where there is no set and no row of a number
abbrev pub no_set : AircraftSet
no_set = record { low = 0; high = 0 }

abbrev pub no_leg : Leg
no_leg = record { flight = false; from = 0; to = 0; start = pos 0; end = pos 0; turn = pos 0; fliers = no_set }

-- the row's minutes are moments, and its turn takes at most a day
pub record IsInRange (leg : Leg) : Type 0 where
  pub start : IsMoment leg.start
  pub end : IsMoment leg.end
  pub turn : IsWithin (pos 0) (pos 1440) leg.turn

-- the row says of activity a what the book says, and its set has exactly the aircraft that may fly it
pub record IsLegOf (book : BookSeen) (a : ℕ) (leg : Leg) : Type 0 where
  pub flight : leg.flight ≡ is_flight book a
  pub from : leg.from ≡ from_port book a
  pub to : leg.to ≡ to_port book a
  pub start : leg.start ≡ start_of book a
  pub end : leg.end ≡ end_of book a
  pub turn : leg.turn ≡ port_turn book (to_port book a)
  pub range : IsInRange leg
  pub fliers : (k : ℕ) → has leg.fliers k ≡ is_allowed book k a

-- an aircraft whose type turns in so many minutes is turned in time between the two: by the larger of its turn and the
-- airport's between two flights, and else at once
abbrev pub is_turned : Leg → Leg → ℤ → Bool
is_turned before after turn =
    int_le (before.end +ℤ (if before.flight && after.flight then int_max turn before.turn else pos 0)) after.start

-- of turns of up to a day, exactly those of up to the stop are in time, and none where there is no stop
abbrev pub IsAskedStop : Leg → Leg → Option ℕ → Type 0
IsAskedStop before after None = (turn : ℤ) → IsWithin (pos 0) (pos 1440) turn → is_turned before after turn ≡ false
IsAskedStop before after (Some stop) =
    (stop < 1441)
    × ((turn : ℤ) → IsWithin (pos 0) (pos 1440) turn → is_turned before after turn ≡ int_le turn (pos stop))

-- some aircraft of the book may fly both, and is turned in time between them
abbrev pub IsFlownOn : BookSeen → Leg → Leg → Type 0
IsFlownOn book before after =
    (k : ℕ) × (k < aircraft book)
    × IsTrue (has before.fliers k && (has after.fliers k && is_turned before after (type_turn book (kind_of book k))))

-- the set has exactly the book's aircraft whose type turns in so many minutes
abbrev pub AreTurnedIn : BookSeen → ℕ → AircraftSet → Type 0
AreTurnedIn book stop set =
    (k : ℕ) → has set k ≡ (nat_lt k (aircraft book) && int_le (type_turn book (kind_of book k)) (pos stop))

-- each activity of the book has its row
abbrev pub AreLegsOf : BookSeen → List Leg → Type 0
AreLegsOf book legs = (a : ℕ) → a < activities book → IsLegOf book a (slice_index_or legs a no_leg)

-- each stop of up to a day has the set of those who turn in it
abbrev pub AreStopsOf : BookSeen → List AircraftSet → Type 0
AreStopsOf book sets = (stop : ℕ) → stop < 1441 → AreTurnedIn book stop (slice_index_or sets stop no_set)

-- the table has a row for each activity of the book, and a set of those who turn for each stop of up to a day
pub record IsLinkTableOf (book : BookSeen) (table : LinkTable) : Type 0 where
  pub legs : length table.legs.items ≡ activities book
  pub each : AreLegsOf book table.legs.items
  pub stops : length table.turned.items ≡ 1441
  pub turned : AreStopsOf book table.turned.items

-- the activities that start at airport p, and those that end there
unfoldable pub departures_of : BookSeen → ℕ → List ℕ
departures_of book p = filter (λ b. nat_eq p (from_port book b)) (range_with_len 0 (activities book))

unfoldable pub arrivals_of : BookSeen → ℕ → List ℕ
arrivals_of book p = filter (λ a. nat_eq p (to_port book a)) (range_with_len 0 (activities book))

-- for each airport the activities that start there, and those that end there
unfoldable pub all_departures_of : BookSeen → List (List ℕ)
all_departures_of book = map (departures_of book) (range_with_len 0 (length book.rules.airports))

unfoldable pub all_arrivals_of : BookSeen → List (List ℕ)
all_arrivals_of book = map (arrivals_of book) (range_with_len 0 (length book.rules.airports))
