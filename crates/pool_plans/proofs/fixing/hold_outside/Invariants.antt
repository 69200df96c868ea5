use Rattle.branch_marks.specs.inside.MarkTables.{AreMarksOf}
use Rattle.pool_plans.proofs.fixing.hold_outside.Given as goal

-- the marks are of the book
abbrev pub invariant-loop-k : goal.invariant-loop-k
invariant-loop-k l = AreMarksOf l.book l.marks
