-- What pricing an aircraft answers: the least weight and a route that has it, or that the aircraft is stuck.
-- For src/exact_price.rt and src/pricer.rt.
use Rattle.std.specs.Prelude.{ℕ, ℤ, List}
use Rattle.tail_book.specs.Seen.{BookSeen}
use Rattle.tail_book.specs.TableSeen.{CostTableSeen}
use Rattle.branch_marks.specs.declared.fact.Fact.{Fact}
use Rattle.branch_marks.specs.DeadEnds.{IsStuck}
use Rattle.branch_marks.specs.Weights.{IsLeastWeight, IsRouteOfWeight}
use Rattle.pricing.specs.declared.priced.Priced.{Priced}
use Rattle.pricing.specs.declared.priced.Priced.TheVariants.{Best, Stuck}

-- the value is the least weight of aircraft k, and the route has it; or no legal route of aircraft k fits the marks
abbrev pub IsPriceOf : CostTableSeen → BookSeen → List Fact → ℕ → List ℤ → Priced → Type 0
IsPriceOf table book marks k duals (Best value route) = IsLeastWeight table book marks k duals value × IsRouteOfWeight table book marks k duals value route
IsPriceOf table book marks k duals Stuck = IsStuck book marks k
