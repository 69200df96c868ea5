use Rattle.std.proofs.Common.{◌≡◌, length}
use Rattle.plan_repair.proofs.repairing.fliers_at_home.Given as goal

-- as many as homes so far
abbrev pub invariant-loop-home : goal.invariant-loop-home
invariant-loop-home l = length l.fliers.items ≡ l.home-index
