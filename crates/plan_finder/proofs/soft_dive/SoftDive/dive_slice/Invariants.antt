use Rattle.plan_finder.specs.Columns.{AreColumns}
use Rattle.branch_marks.specs.Settled.{AreDuals}
use Rattle.branch_marks.specs.inside.MarkTables.{AreMarksOf}
use Rattle.plan_finder.proofs.soft_dive.SoftDive.dive_slice.Given as goal

-- columns, duals and marks are of the book
abbrev pub invariant-loop-choice : goal.invariant-loop-choice
invariant-loop-choice l = record {
  columns : AreColumns l.problem l.columns;
  duals : AreDuals l.problem.table.now l.problem.book.now l.duals.values;
  marks : AreMarksOf l.problem.book.now l.self.marks;
}
