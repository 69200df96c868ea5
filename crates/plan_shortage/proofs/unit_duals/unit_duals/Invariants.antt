use Rattle.std.proofs.Common.{◌≡◌, map}
use Rattle.std.specs.List.{range_with_len}
use Rattle.plan_shortage.specs.inside.Pricing.{unit_dual}
use Rattle.plan_shortage.proofs.unit_duals.unit_duals.Given as goal

-- the duals of the activities so far
abbrev pub invariant-loop-a : goal.invariant-loop-a
invariant-loop-a l = l.values.items ≡ map (unit_dual l.asked l.brought) (range_with_len 0 l.a)
