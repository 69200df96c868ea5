use Rattle.std.proofs.Common.{◌≡◌}
use Rattle.std.specs.List.{flat_map, range_with_len}
use Rattle.plan_repair.specs.inside.Raised.{raised_costs}
use Rattle.plan_repair.proofs.raised.costs_of_all.Given as goal

-- the costs of the aircraft so far
abbrev pub invariant-loop-k : goal.invariant-loop-k
invariant-loop-k l = l.fly.items ≡ flat_map (raised_costs l.table l.homes l.raise) (range_with_len 0 l.k)
