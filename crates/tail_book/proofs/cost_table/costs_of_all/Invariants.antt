use Rattle.std.proofs.Common.{◌≡◌}
use Rattle.std.specs.List.{flat_map, range_with_len}
use Rattle.tail_book.specs.CostTable.{activity_costs}
use Rattle.tail_book.proofs.cost_table.costs_of_all.Given as goal

-- the costs of the aircraft so far
abbrev pub invariant-loop-k : goal.invariant-loop-k
invariant-loop-k l = l.fly.items ≡ flat_map (activity_costs l.book) (range_with_len 0 l.k)
