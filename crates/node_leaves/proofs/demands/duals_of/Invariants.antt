use Rattle.std.proofs.Common.{◌≡◌, length}
use Rattle.std.specs.Prelude.{All}
use Rattle.tail_book.specs.CostTable.{IsInBox}
use Rattle.node_leaves.proofs.demands.duals_of.Given as goal

-- a dual in the box for each activity so far
abbrev pub invariant-loop-a : goal.invariant-loop-a
invariant-loop-a l = record {
  count : length l.values.items ≡ l.a;
  box : All (IsInBox l.table) l.values.items;
}
