-- The words of pricing with fees, said of what is asked: an aircraft of a book, by a table of costs, under marks, duals and fees.
-- For src/fill.rt, src/fee_pricer.rt and others.
use Rattle.std.specs.Prelude.{ℕ, ℤ, List, Option}
use Rattle.tail_book.specs.declared.place.Place.{Place}
use Rattle.branch_marks.specs.Marks.{IsUsable}
use Rattle.label_store.specs.Seen.{StoreSeen}
use Rattle.pricing.specs.declared.priced.Priced.{Priced}
use Rattle.pricing.specs.Rows.{labels_of}
use Rattle.pricing.specs.inside.Growth.{Tried}
use Rattle.pricing.specs.inside.Truth.{row_of}
use Rattle.quota_rows.specs.FeeWeights.{fee_arc}
use Rattle.fee_pricing.specs.declared.asked.Asked.{Asked}
use Rattle.fee_pricing.specs.Arcs.{IsClosedBy}
use Rattle.fee_pricing.specs.Price.{IsFeePriceOf, AreSpelledWithFees}
use Rattle.fee_pricing.specs.inside.Truth.{AreTrue, IsNext, IsTrueAt}
use Rattle.fee_pricing.specs.inside.Filled.{AreFilled, IsBegun, IsFilled, IsReached}

-- what b after x adds to a weight, with fees
abbrev pub arc_for : Asked → Place → ℕ → ℤ
arc_for asked x b = fee_arc asked.table.now asked.book.now asked.quotas.now asked.k asked.duals.now.values asked.fees.now.values x b

-- rows, and what a link gives
abbrev pub row_for : Asked → StoreSeen → Option ℕ → List ℤ
row_for asked store row = row_of asked.book.now asked.k store row

abbrev pub AreTrueFor : Asked → StoreSeen → Type 0
AreTrueFor asked store = AreTrue (arc_for asked) asked.book.now asked.marks.now.facts asked.k store

abbrev pub IsTrueFor : Asked → StoreSeen → Option ℕ → Type 0
IsTrueFor asked store row = IsTrueAt (arc_for asked) asked.book.now asked.marks.now.facts asked.k store row

abbrev pub IsUsableFor : Asked → Place → ℕ → Type 0
IsUsableFor asked x b = IsUsable asked.book.now asked.marks.now.facts asked.k x b

abbrev pub IsNextFor : Asked → Place → List ℤ → ℕ → List ℤ → Type 0
IsNextFor asked x row b next = IsNext (arc_for asked) asked.book.now asked.marks.now.facts asked.k x row b next

-- what was tried, and the buckets that are done
abbrev pub TriedFor : Asked → StoreSeen → ℤ → Place → ℕ → List ℤ → Type 0
TriedFor asked store arc x b row = Tried asked.book.now asked.k store arc x b row

abbrev pub IsReachedFor : Asked → StoreSeen → ℕ → ℕ → StoreSeen → Type 0
IsReachedFor asked old x b store = IsReached (arc_for asked) asked.book.now asked.marks.now.facts asked.k old x b store

abbrev pub IsBegunFor : Asked → ℕ → StoreSeen → Type 0
IsBegunFor asked b store = IsBegun (arc_for asked) asked.book.now asked.marks.now.facts asked.k b store

abbrev pub IsFilledFor : Asked → StoreSeen → ℕ → Type 0
IsFilledFor asked store b = IsFilled (arc_for asked) asked.book.now asked.marks.now.facts asked.k store b

abbrev pub AreFilledFor : Asked → StoreSeen → ℕ → Type 0
AreFilledFor asked store n = AreFilled (arc_for asked) asked.book.now asked.marks.now.facts asked.k store n

-- the answer
abbrev pub IsClosedFor : Asked → StoreSeen → Type 0
IsClosedFor asked store = IsClosedBy (arc_for asked) asked.book.now asked.marks.now.facts asked.k (labels_of store)

abbrev pub IsPriceFor : Asked → Priced → Type 0
IsPriceFor asked priced =
    IsFeePriceOf asked.table.now asked.book.now asked.quotas.now asked.marks.now.facts asked.k asked.duals.now.values asked.fees.now.values priced

abbrev pub AreSpelledFor : Asked → StoreSeen → Type 0
AreSpelledFor asked store =
    AreSpelledWithFees asked.table.now asked.book.now asked.quotas.now asked.marks.now.facts asked.k asked.duals.now.values asked.fees.now.values store
