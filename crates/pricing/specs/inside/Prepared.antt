-- What a pricer has made ready of a book. For src/pricer.rt.
use Rattle.std.specs.Prelude.{◌≡◌, ◌+◌, length, IfSome}
use Rattle.tail_book.specs.Seen.{BookSeen}
use Rattle.tail_book.specs.TableSeen.{CostTableSeen}
use Rattle.tail_book.specs.Lookup.{activities}
use Rattle.maint_counters.specs.inside.StepTable.{IsStepTableOf}
use Rattle.pricing.specs.declared.pricer.Pricer.{Pricer}
use Rattle.pricing.specs.inside.Airports.{AreAirports}

-- the pricer was made for the book and this table of costs: it has steps, room for a row and for a note at each activity, and
-- if labels wait in lines, the airports
pub record IsPricerOf (book : BookSeen) (table : CostTableSeen) (pricer : Pricer) : Type 0 where
  pub steps : IsStepTableOf book pricer.steps
  pub row : length pricer.row.items ≡ 1 + length book.rules.counters
  pub cut : length pricer.cut.items ≡ activities book
  pub airports : IfSome pricer.airports (λ all. AreAirports table.bands book all.items)
