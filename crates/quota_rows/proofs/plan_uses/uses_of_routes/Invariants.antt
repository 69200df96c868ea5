use Rattle.std.proofs.Common.{◌≡◌, ◌+◌, drop}
use Rattle.quota_rows.specs.KeptPlans.{uses}
use Rattle.quota_rows.proofs.plan_uses.uses_of_routes.Given as goal

-- the uses so far, and those of the routes that are left
abbrev pub invariant-loop-k : goal.invariant-loop-k
invariant-loop-k l = uses l.book l.quota l.routes ≡ l.count + uses l.book l.quota (drop l.k l.routes)
