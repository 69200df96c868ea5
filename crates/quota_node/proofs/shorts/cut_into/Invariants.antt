use Rattle.branch_marks.specs.inside.MarkTables.{AreMarksOf}
use Rattle.quota_node.proofs.shorts.cut_into.Given as goal

-- the marks stay those of the book
abbrev pub invariant-loop-a : goal.invariant-loop-a
invariant-loop-a l = AreMarksOf l.book l.cut
