use Rattle.std.proofs.Common.{◌≡◌, [], replicate}
use Rattle.plan_audit.proofs.kept_plan.empty_routes.Given as goal

-- so many so far
abbrev pub invariant-loop : goal.invariant-loop
invariant-loop l = l.routes.items ≡ replicate l.counter []
