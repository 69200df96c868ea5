use Rattle.plan_finder.specs.Columns.{AreColumns}
use Rattle.plan_finder.proofs.finder.dive_by.Given as goal

-- the columns are of the book
abbrev pub invariant-loop-i : goal.invariant-loop-i
invariant-loop-i l = AreColumns l.problem l.columns
