use Rattle.std.proofs.Common.{◌≡◌, map, pos}
use Rattle.std.specs.List.{range_with_len}
use Rattle.std.specs.Option.{unwrap_or}
use Rattle.branch_marks.specs.Pool.{least_in}
use Rattle.branch_tree.proofs.settled.least_values.Given as goal

-- the aircraft so far
abbrev pub invariant-loop-k : goal.invariant-loop-k
invariant-loop-k l = l.values.items ≡ map (λ k. unwrap_or (least_in l.table l.book l.duals.values k l.pool.entries) (pos 0)) (range_with_len 0 l.k)
