use Rattle.std.proofs.Common.{◌≡◌, ◌++◌, drop, length, All}
use Rattle.plan_audit.specs.Rules.{past_limits}
use Rattle.plan_audit.specs.inside.PastLimits.{IsWithinLegs}
use Rattle.plan_audit.proofs.past_limits.add_past_limits_from.Given as goal

-- what is left is added to what was, from the values as they are, which the legs so far have not brought far
abbrev pub invariant-loop-leg : goal.invariant-loop-leg
invariant-loop-leg l = record {
  counted : l.fn.list.items ++ past_limits l.book l.initial.values l.legs ≡ l.list.items ++ past_limits l.book l.values (drop l.leg-index l.legs);
  width : length l.values ≡ length l.book.rules.counters;
  far : All (IsWithinLegs l.leg-index) l.values;
}
