use Rattle.std.proofs.Common.{◌≡◌, length}
use Rattle.plan_remains.proofs.move_worths.worths_of_moves.Given as goal

-- one for each activity so far
abbrev pub invariant-loop-a : goal.invariant-loop-a
invariant-loop-a l = length l.worths.items ≡ l.a
