use Rattle.plan_finder.specs.Columns.{AreColumns}
use Rattle.plan_finder.proofs.repairing.repair_within.Given as goal

-- the columns are of the book
abbrev pub invariant-loop-a : goal.invariant-loop-a
invariant-loop-a l = AreColumns l.problem l.columns
