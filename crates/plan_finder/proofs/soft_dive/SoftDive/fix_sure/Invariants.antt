use Rattle.branch_marks.specs.inside.MarkTables.{AreMarksOf}
use Rattle.plan_finder.proofs.soft_dive.SoftDive.fix_sure.Given as goal

-- the marks are of the book
abbrev pub invariant-loop-k : goal.invariant-loop-k
invariant-loop-k l = AreMarksOf l.problem.book.now l.self.marks
