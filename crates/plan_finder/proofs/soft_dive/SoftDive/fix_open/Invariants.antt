use Rattle.branch_marks.specs.inside.MarkTables.{AreMarksOf}
use Rattle.plan_finder.proofs.soft_dive.SoftDive.fix_open.Given as goal

-- the marks are of the book
abbrev pub invariant-loop-turn : goal.invariant-loop-turn
invariant-loop-turn l = AreMarksOf l.problem.book.now l.self.marks
