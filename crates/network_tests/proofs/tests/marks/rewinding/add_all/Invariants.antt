use Rattle.branch_marks.specs.inside.MarkTables.{AreMarksOf}
use Rattle.network_tests.proofs.tests.marks.rewinding.add_all.Given as goal

-- the marks are of the book
abbrev pub invariant-loop-fact : goal.invariant-loop-fact
invariant-loop-fact l = AreMarksOf l.book l.marks
