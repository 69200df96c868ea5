-- The words of waiting, said of what is asked and of the lines of an airport.
-- For src/line_fill.rt, src/waiting.rt and others.
use Rattle.std.specs.Prelude.{ℕ, List}
use Rattle.label_store.specs.Seen.{StoreSeen}
use Rattle.pricing.specs.declared.asked.Asked.{Asked}
use Rattle.pricing.specs.declared.lines.Lines.{Lines}
use Rattle.pricing.specs.declared.stand.Stand.{Stand}
use Rattle.pricing.specs.declared.waiting.Waiting.{Waiting}
use Rattle.pricing.specs.declared.window.Window.{Window}
use Rattle.pricing.specs.inside.Waiting.{AreCleared, AreEntered, AreFlights, AreHeld, ArePending, AreTriedIn, HasWaited, HaveEntered, IsArrival, IsHeld, IsOpen, IsTriedBelow, IsWaiting, MayWait, window_at}

-- what waits at a stand, and which departure takes from it
abbrev pub IsWaitingAt : Asked → Stand → List Window → StoreSeen → Waiting → Type 0
IsWaitingAt asked stand windows store waiting = IsWaiting asked.book.now asked.marks.now.facts stand windows store waiting

abbrev pub AreEnteredAt : Asked → Stand → List Window → List ℕ → StoreSeen → Waiting → List ℕ → Type 0
AreEnteredAt asked stand windows flights store waiting entered =
    AreEntered asked.book.now asked.marks.now.facts stand windows flights store waiting entered

abbrev pub IsOpenAt : Asked → Stand → ℕ → Type 0
IsOpenAt asked stand b = IsOpen asked.book.now asked.marks.now.facts asked.k stand b

-- the flights are those of the airport, and a window has as cleared what its shortest stay clears
abbrev pub AreFlightsFor : Asked → Lines → Type 0
AreFlightsFor asked lines = AreFlights asked.book.now lines.stand.port lines.flights.now

abbrev pub IsClearedFor : Asked → Lines → ℕ → Type 0
IsClearedFor asked lines i = AreCleared asked.book.now.rules.counters lines.stand.port (window_at lines.windows.now i)

-- who may wait, and has waited long enough for window i
abbrev pub IsArrivalFor : Asked → Lines → ℕ → Type 0
IsArrivalFor asked lines x = IsArrival asked.book.now lines.stand.port x

abbrev pub MayWaitFor : Asked → Lines → ℕ → Type 0
MayWaitFor asked lines x = MayWait asked.book.now asked.marks.now.facts lines.stand x

abbrev pub HasWaitedFor : Asked → Lines → ℕ → ℕ → Type 0
HasWaitedFor asked lines i x = HasWaited asked.book.now lines.stand (window_at lines.windows.now i) x

-- what waits in the lines
abbrev pub IsWaitingFor : Asked → Lines → StoreSeen → Waiting → Type 0
IsWaitingFor asked lines store waiting = IsWaitingAt asked lines.stand lines.windows.now store waiting

abbrev pub IsHeldFor : Asked → Lines → StoreSeen → Waiting → ℕ → ℕ → ℕ → Type 0
IsHeldFor asked lines store waiting i x j = IsHeld asked.book.now lines.stand lines.windows.now store waiting i x j

abbrev pub AreHeldFor : Asked → Lines → StoreSeen → Waiting → ℕ → ℕ → Type 0
AreHeldFor asked lines store waiting i x = AreHeld asked.book.now lines.stand lines.windows.now store waiting i x

abbrev pub HaveEnteredFor : Asked → Lines → StoreSeen → Waiting → ℕ → ℕ → Type 0
HaveEnteredFor asked lines store waiting i upto =
    HaveEntered asked.book.now asked.marks.now.facts lines.stand lines.windows.now lines.flights.now store waiting i upto

abbrev pub ArePendingFor : Asked → Lines → ℕ → ℕ → Type 0
ArePendingFor asked lines i upto = ArePending asked.book.now lines.stand lines.windows.now lines.flights.now i upto

abbrev pub AreEnteredFor : Asked → Lines → StoreSeen → Waiting → List ℕ → Type 0
AreEnteredFor asked lines store waiting entered =
    AreEnteredAt asked lines.stand lines.windows.now lines.flights.now store waiting entered

-- a departure that takes from the lines, and what it tries
abbrev pub IsOpenFor : Asked → Lines → ℕ → Type 0
IsOpenFor asked lines b = IsOpenAt asked lines.stand b

abbrev pub IsTriedBelowFor : Asked → Lines → StoreSeen → StoreSeen → ℕ → ℕ → ℕ → ℕ → Type 0
IsTriedBelowFor asked lines old store i b x j =
    IsTriedBelow asked.table.now asked.book.now asked.k asked.duals.now.values old store (window_at lines.windows.now i).hi b x j

abbrev pub AreTriedInFor : Asked → Lines → StoreSeen → StoreSeen → ℕ → Waiting → ℕ → Type 0
AreTriedInFor asked lines old store b waiting i =
    AreTriedIn asked.table.now asked.book.now asked.k asked.duals.now.values old store lines.windows.now b waiting i
