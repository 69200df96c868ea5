use Rattle.plan_finder.specs.Columns.{AreColumns}
use Rattle.plan_finder.proofs.columns.Columns.sum_up.Given as goal

-- the columns are of the book
abbrev pub invariant-loop-k : goal.invariant-loop-k
invariant-loop-k l = AreColumns l.problem l.self
