use Rattle.branch_marks.specs.inside.MarkTables.{AreMarksOf}
use Rattle.propagator.specs.Keeping.{IsKeptFor}
use Rattle.network_tests.proofs.tests.propagation.chance.kept.follow_all.Given as goal

-- the propagator is kept for the marks
abbrev pub invariant-loop-turn : goal.invariant-loop-turn
invariant-loop-turn l = AreMarksOf l.book l.marks × IsKeptFor l.book l.marks.facts l.kept
