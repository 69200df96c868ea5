use Rattle.std.proofs.Common.{◌≡◌, length}
use Rattle.fullest_plan.proofs.filling.worths.Given as goal

-- one for each activity so far
abbrev pub invariant-loop-a : goal.invariant-loop-a
invariant-loop-a l = length l.list.items ≡ l.a
