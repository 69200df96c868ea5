-- The duals stay in the box, and none comes or goes.
use Rattle.std.proofs.Common.{length, ◌≡◌}
use Rattle.branch_marks.specs.Settled.{AreDuals}
use Rattle.dual_ascent.proofs.climb.sweep.Given as goal

abbrev pub invariant-loop-i : goal.invariant-loop-i
invariant-loop-i l = AreDuals l.table l.book l.duals.values × (length l.duals.values ≡ l.n)
