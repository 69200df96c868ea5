use Rattle.std.proofs.Common.{◌≡◌, ◌++◌, ℕ, List, take, length}
use Rattle.std.specs.List.{flat_map}
use Rattle.plan_audit.specs.inside.Times.{AreTimes}
use Rattle.plan_audit.proofs.legal_plan.count_routes.Given as goal

-- the activities of the routes so far are counted
abbrev pub invariant-loop-route : goal.invariant-loop-route
invariant-loop-route l = record {
  counts : (flown : List ℕ) → AreTimes l.initial.times flown → AreTimes l.times (flown ++ flat_map (λ r. r) (take l.route-index l.routes));
  long : length l.times ≡ length l.initial.times;
}
