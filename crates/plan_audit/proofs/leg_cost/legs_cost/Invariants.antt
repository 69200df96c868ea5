use Rattle.std.proofs.Common.{◌≡◌, ◌+◌, drop}
use Rattle.plan_audit.specs.inside.LegCost.{legs_cost}
use Rattle.plan_audit.proofs.leg_cost.legs_cost.Given as goal

-- the cost so far, and that of the legs that are left
abbrev pub invariant-loop-leg : goal.invariant-loop-leg
invariant-loop-leg l = legs_cost l.book l.legs ≡ l.cost + legs_cost l.book (drop l.leg-index l.legs)
