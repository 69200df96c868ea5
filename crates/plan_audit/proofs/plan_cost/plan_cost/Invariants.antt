use Rattle.std.proofs.Common.{◌≡◌, ◌+◌, drop}
use Rattle.tail_book.specs.CostTable.{plan_cost_in, cost_of_routes_in}
use Rattle.plan_audit.proofs.plan_cost.plan_cost.Given as goal

-- the cost so far, and that of the routes that are left
abbrev pub invariant-loop-k : goal.invariant-loop-k
invariant-loop-k l = plan_cost_in l.table l.book l.routes ≡ l.cost + cost_of_routes_in l.table l.book l.k (drop l.k l.routes)
