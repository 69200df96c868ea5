use Rattle.std.proofs.Common.{◌≡◌}
use Rattle.plan_finder.specs.Columns.{AreColumns}
use Rattle.plan_finder.proofs.soft_dive.SoftDive.price_free.Given as goal

-- the columns are of the book, and the marks stay
abbrev pub invariant-loop-k : goal.invariant-loop-k
invariant-loop-k l = record {
  columns : AreColumns l.problem l.columns;
  marks : l.self.marks ≡ l.initial.self.marks;
}
