use Rattle.std.proofs.Common.{◌≡◌, ◌<◌, ◌≤◌, ◌-◌, true}
use Rattle.tail_book.specs.Lookup.{activities}
use Rattle.branch_marks.specs.declared.fact.Fact.TheVariants.{Must}
use Rattle.branch_marks.specs.FactTests.{has_fact}
use Rattle.propagator.specs.inside.CutOff.{IsCutOff}
use Rattle.propagator.proofs.due_floors.last_must.Given as goal

-- what lies below the last one is cut off, and the next one is a Must if there is one
abbrev pub invariant-loop-c : goal.invariant-loop-c
invariant-loop-c l = IsCutOff l.book l.marks.facts l.k l.b l.last × (l.c < activities l.book → has_fact l.marks.facts (Must l.k l.c) ≡ true) × (l.c ≤ activities l.book)

abbrev pub decreases-loop-c : goal.decreases-loop-c
decreases-loop-c l = activities l.book - l.c
