-- The duals stay in the box.
use Rattle.branch_marks.specs.Settled.{AreDuals}
use Rattle.dual_ascent.proofs.climb.climb.Given as goal

abbrev pub invariant-loop-turn : goal.invariant-loop-turn
invariant-loop-turn l = AreDuals l.table l.book l.duals.values
