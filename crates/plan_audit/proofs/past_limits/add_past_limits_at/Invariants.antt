use Rattle.std.proofs.Common.{◌≡◌, ◌++◌, drop}
use Rattle.plan_audit.specs.Rules.{past_limits_at}
use Rattle.plan_audit.proofs.past_limits.add_past_limits_at.Given as goal

-- what is left is added to what was
abbrev pub invariant-loop-c : goal.invariant-loop-c
invariant-loop-c l =
    l.fn.list.items ++ past_limits_at l.leg 0 l.counters l.values ≡ l.list.items ++ past_limits_at l.leg l.c (drop l.c l.counters) (drop l.c l.values)
