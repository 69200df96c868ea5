-- The duals stay in the box, and none comes or goes.
use Rattle.std.proofs.Common.{length, ◌≡◌}
use Rattle.branch_marks.specs.Settled.{AreDuals}
use Rattle.branch_tree.proofs.warm_start.put_duals.Given as goal

abbrev pub invariant-loop-a : goal.invariant-loop-a
invariant-loop-a l = AreDuals l.table l.book l.duals.values × (length l.duals.values ≡ l.n)
