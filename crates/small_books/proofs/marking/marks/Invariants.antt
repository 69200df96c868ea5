use Rattle.branch_marks.specs.inside.MarkTables.{AreMarksOf}
use Rattle.small_books.proofs.marking.marks.Given as goal

abbrev pub invariant-loop-fact : goal.invariant-loop-fact
invariant-loop-fact l = AreMarksOf l.book l.marks
