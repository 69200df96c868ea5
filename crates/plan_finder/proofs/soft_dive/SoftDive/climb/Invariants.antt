use Rattle.std.proofs.Common.{◌≡◌}
use Rattle.plan_finder.specs.Columns.{AreColumns}
use Rattle.branch_marks.specs.Settled.{AreDuals}
use Rattle.plan_finder.proofs.soft_dive.SoftDive.climb.Given as goal

-- columns and duals are of the book, and the marks stay
abbrev pub invariant-loop-round : goal.invariant-loop-round
invariant-loop-round l = record {
  columns : AreColumns l.problem l.columns;
  duals : AreDuals l.problem.table.now l.problem.book.now l.duals.values;
  marks : l.self.marks ≡ l.initial.self.marks;
}
