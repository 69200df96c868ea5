use Rattle.std.proofs.Common.{◌≡◌, ◌++◌, map}
use Rattle.std.specs.List.{range_with_len}
use Rattle.tail_book.specs.Cost.{activity_cost}
use Rattle.tail_book.proofs.cost_table.add_costs.Given as goal

-- the costs of the activities so far stand behind those of the aircraft before
abbrev pub invariant-loop-a : goal.invariant-loop-a
invariant-loop-a l = l.fly.items ≡ l.fn.fly.items ++ map (activity_cost l.book l.k) (range_with_len 0 l.a)
