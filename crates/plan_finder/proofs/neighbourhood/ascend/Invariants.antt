use Rattle.plan_finder.specs.Columns.{AreColumns}
use Rattle.branch_marks.specs.Settled.{AreDuals}
use Rattle.plan_finder.proofs.neighbourhood.ascend.Given as goal

-- columns, duals and the best of them are of the book
abbrev pub invariant-loop-round : goal.invariant-loop-round
invariant-loop-round l = record {
  columns : AreColumns l.problem l.columns;
  duals : AreDuals l.problem.table.now l.problem.book.now l.duals.values;
  center : AreDuals l.problem.table.now l.problem.book.now l.ascent.best;
}
