use Rattle.std.proofs.Common.{◌≡◌, ◌++◌, ℕ, List, take, length}
use Rattle.plan_audit.specs.inside.Times.{AreTimes}
use Rattle.plan_audit.proofs.legal_plan.count_route.Given as goal

-- the activities so far are counted
abbrev pub invariant-loop-a : goal.invariant-loop-a
invariant-loop-a l = record {
  counts : (flown : List ℕ) → AreTimes l.initial.times flown → AreTimes l.times (flown ++ take l.a-index l.route);
  long : length l.times ≡ length l.initial.times;
}
