use Rattle.std.proofs.Common.{◌≡◌, map}
use Rattle.std.specs.List.{range_with_len}
use Rattle.fullest_plan.proofs.left_out.all_left_out.Given as goal

-- the activities so far
abbrev pub invariant-loop-a : goal.invariant-loop-a
invariant-loop-a l = l.list.items ≡ map (λ a. a) (range_with_len 0 l.a)
