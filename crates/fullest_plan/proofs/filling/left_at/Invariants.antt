use Rattle.std.proofs.Common.{◌≤◌}
use Rattle.fullest_plan.proofs.filling.left_at.Given as goal

-- no more are counted than were looked at
abbrev pub invariant-loop-a : goal.invariant-loop-a
invariant-loop-a l = l.before ≤ l.a
