use Rattle.branch_marks.specs.inside.MarkTables.{AreMarksOf}
use Rattle.quota_node.proofs.shorts.cut_shorts.Given as goal

-- the marks stay those of the book
abbrev pub invariant-loop-b : goal.invariant-loop-b
invariant-loop-b l = AreMarksOf l.book l.cut
