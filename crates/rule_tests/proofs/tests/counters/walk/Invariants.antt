use Rattle.tail_book.specs.Place.{IsPlaceOf}
use Rattle.maint_counters.specs.inside.Counts.{AreCounts}
use Rattle.rule_tests.proofs.tests.counters.walk.Given as goal

-- the place is of the book, and the values are counts
abbrev pub invariant-loop-b : goal.invariant-loop-b
invariant-loop-b l = record { place : IsPlaceOf l.book l.from; range : AreCounts l.values }
