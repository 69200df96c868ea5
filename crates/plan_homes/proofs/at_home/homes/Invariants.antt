use Rattle.std.proofs.Common.{◌≡◌, map}
use Rattle.std.specs.List.{range_with_len}
use Rattle.plan_homes.specs.Homes.{home}
use Rattle.plan_homes.proofs.at_home.homes.Given as goal

-- the homes of the activities so far
abbrev pub invariant-loop-a : goal.invariant-loop-a
invariant-loop-a l = l.homes.items ≡ map (home l.book l.raw) (range_with_len 0 l.a)
