use Rattle.branch_marks.specs.inside.MarkTables.{AreMarksOf}
use Rattle.network_tests.proofs.tests.marks.rewinding.wanders.Given as goal

-- the marks are of the book
abbrev pub invariant-loop-turn : goal.invariant-loop-turn
invariant-loop-turn l = AreMarksOf l.book l.one
