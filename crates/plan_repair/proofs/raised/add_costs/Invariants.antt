use Rattle.std.proofs.Common.{◌≡◌, ◌++◌, map}
use Rattle.std.specs.List.{range_with_len}
use Rattle.plan_repair.specs.inside.Raised.{raised_cost}
use Rattle.plan_repair.proofs.raised.add_costs.Given as goal

-- the costs of the activities so far stand behind those of the aircraft before
abbrev pub invariant-loop-a : goal.invariant-loop-a
invariant-loop-a l = l.fly.items ≡ l.fn.fly.items ++ map (raised_cost l.table l.homes l.raise l.k) (range_with_len 0 l.a)
