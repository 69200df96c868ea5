-- The words of pricing, said of what is asked: an aircraft of a book, by a table of costs, under marks and duals.
-- For src/fill.rt, src/line_pass.rt and others.
use Rattle.std.specs.Prelude.{ℕ, ℤ, List, Option}
use Rattle.tail_book.specs.declared.place.Place.{Place}
use Rattle.branch_marks.specs.Families.{IsClosedFamily}
use Rattle.branch_marks.specs.Marks.{IsUsable}
use Rattle.branch_marks.specs.Weights.{arc_weight}
use Rattle.label_store.specs.Seen.{StoreSeen}
use Rattle.pricing.specs.declared.airport.AirportLines.{AirportLines}
use Rattle.pricing.specs.declared.asked.Asked.{Asked}
use Rattle.pricing.specs.declared.priced.Priced.{Priced}
use Rattle.pricing.specs.Price.{IsPriceOf}
use Rattle.pricing.specs.Rows.{labels_of}
use Rattle.pricing.specs.inside.Airports.{AreAirports, AreBusy, IsFloor}
use Rattle.pricing.specs.inside.Filled.{AreFilled, IsBegun, IsFilled, IsReached}
use Rattle.pricing.specs.inside.Growth.{Tried}
use Rattle.pricing.specs.inside.Truth.{AreTrue, IsNext, IsTrueAt, row_of}

-- rows, and what a link gives
abbrev pub row_for : Asked → StoreSeen → Option ℕ → List ℤ
row_for asked store row = row_of asked.book.now asked.k store row

abbrev pub AreTrueFor : Asked → StoreSeen → Type 0
AreTrueFor asked store = AreTrue asked.table.now asked.book.now asked.marks.now.facts asked.k asked.duals.now.values store

abbrev pub IsTrueFor : Asked → StoreSeen → Option ℕ → Type 0
IsTrueFor asked store row = IsTrueAt asked.table.now asked.book.now asked.marks.now.facts asked.k asked.duals.now.values store row

abbrev pub IsUsableFor : Asked → Place → ℕ → Type 0
IsUsableFor asked x b = IsUsable asked.book.now asked.marks.now.facts asked.k x b

abbrev pub arc_weight_for : Asked → Place → ℕ → ℤ
arc_weight_for asked x b = arc_weight asked.table.now asked.book.now asked.k asked.duals.now.values x b

abbrev pub IsNextFor : Asked → Place → List ℤ → ℕ → List ℤ → Type 0
IsNextFor asked x row b next = IsNext asked.table.now asked.book.now asked.marks.now.facts asked.k asked.duals.now.values x row b next

-- what was tried, and the buckets that are done
abbrev pub TriedFor : Asked → StoreSeen → ℤ → Place → ℕ → List ℤ → Type 0
TriedFor asked store arc x b row = Tried asked.book.now asked.k store arc x b row

abbrev pub IsReachedFor : Asked → StoreSeen → ℕ → ℕ → StoreSeen → Type 0
IsReachedFor asked old x b store = IsReached asked.table.now asked.book.now asked.marks.now.facts asked.k asked.duals.now.values old x b store

abbrev pub IsBegunFor : Asked → ℕ → StoreSeen → Type 0
IsBegunFor asked b store = IsBegun asked.table.now asked.book.now asked.marks.now.facts asked.k asked.duals.now.values b store

abbrev pub IsFilledFor : Asked → StoreSeen → ℕ → Type 0
IsFilledFor asked store b = IsFilled asked.table.now asked.book.now asked.marks.now.facts asked.k asked.duals.now.values store b

abbrev pub AreFilledFor : Asked → StoreSeen → ℕ → Type 0
AreFilledFor asked store n = AreFilled asked.table.now asked.book.now asked.marks.now.facts asked.k asked.duals.now.values store n

-- airports, and what waits there
abbrev pub AreAirportsFor : Asked → List AirportLines → Type 0
AreAirportsFor asked airports = AreAirports asked.table.now.bands asked.book.now airports

abbrev pub AreBusyFor : Asked → ℕ → ℤ → StoreSeen → List AirportLines → Type 0
AreBusyFor asked floor moment store airports = AreBusy asked.book.now asked.marks.now.facts asked.k floor moment store airports

abbrev pub IsFloorFor : Asked → ℕ → ℕ → Type 0
IsFloorFor asked b floor = IsFloor asked.marks.now.facts asked.k b floor

-- the answer
abbrev pub IsClosedFor : Asked → StoreSeen → Type 0
IsClosedFor asked store =
    IsClosedFamily asked.table.now asked.book.now asked.marks.now.facts asked.k asked.duals.now.values (labels_of store)

abbrev pub IsPriceFor : Asked → Priced → Type 0
IsPriceFor asked priced = IsPriceOf asked.table.now asked.book.now asked.marks.now.facts asked.k asked.duals.now.values priced
