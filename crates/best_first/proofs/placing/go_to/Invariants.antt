use Rattle.std.proofs.Common.{◌≡◌, take}
use Rattle.branch_marks.specs.inside.MarkTables.{AreMarksOf}
use Rattle.best_first.proofs.placing.go_to.Given as goal

-- the facts so far are the marks
abbrev pub invariant-loop-i : goal.invariant-loop-i
invariant-loop-i l = record {
  facts : l.marks.facts ≡ take l.i l.facts;
  marks : AreMarksOf l.book l.marks;
}
