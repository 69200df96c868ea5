use Rattle.std.proofs.Common.{◌≡◌, ◌≤◌, ◌+◌, ℕ, pos, ◌++◌, take, drop, length, get_or, All}
use Rattle.tail_book.specs.Counters.{step_from}
use Rattle.plan_audit.specs.inside.PastLimits.{IsWithinLegs}
use Rattle.plan_audit.specs.Rules.{values_before}
use Rattle.plan_audit.proofs.past_limits.count_leg.Given as goal

-- the values before c are stepped, the others stand as they were
abbrev pub invariant-loop-c : goal.invariant-loop-c
invariant-loop-c l = record {
  width : length l.values ≡ length l.initial.values;
  rest : (i : ℕ) → l.c ≤ i → get_or l.values i (pos 0) ≡ get_or l.initial.values i (pos 0);
  stepped : step_from l.book l.leg.tail l.leg.from l.leg.activity 0 l.counters (values_before l.book l.leg.tail l.leg.from l.initial.values)
      ≡ take l.c l.values ++ step_from l.book l.leg.tail l.leg.from l.leg.activity l.c (drop l.c l.counters) (drop l.c (values_before l.book l.leg.tail l.leg.from l.initial.values));
  far : (legs : ℕ) → All (IsWithinLegs legs) l.initial.values → All (IsWithinLegs (legs + 1)) (take l.c l.values);
}
