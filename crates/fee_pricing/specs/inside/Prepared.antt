-- What a pricer with fees has made ready of a book. For src/fee_pricer.rt.
use Rattle.std.specs.Prelude.{◌≡◌, ◌+◌, length}
use Rattle.tail_book.specs.Seen.{BookSeen}
use Rattle.maint_counters.specs.inside.StepTable.{IsStepTableOf}
use Rattle.fee_pricing.specs.declared.fee_pricer.FeePricer.{FeePricer}

-- the pricer was made for the book: it has steps, and room for a row
pub record IsFeePricerOf (book : BookSeen) (pricer : FeePricer) : Type 0 where
  pub steps : IsStepTableOf book pricer.steps
  pub row : length pricer.row.items ≡ 1 + length book.rules.counters
