use Rattle.branch_marks.specs.inside.MarkTables.{AreMarksOf}
use Rattle.pool_plans.proofs.fixing.fix_outside.Given as goal

-- the marks are of the book
abbrev pub invariant-loop-a : goal.invariant-loop-a
invariant-loop-a l = AreMarksOf l.book l.marks
