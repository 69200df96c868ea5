use Rattle.std.proofs.Common.{◌≡◌, length}
use Rattle.std.specs.Prelude.{All}
use Rattle.tail_book.specs.CostTable.{IsInBox}
use Rattle.fullest_plan.proofs.worths.boxed.Given as goal

-- a dual in the box for each number so far
abbrev pub invariant-loop-a : goal.invariant-loop-a
invariant-loop-a l = record {
  count : length l.duals.items ≡ l.a;
  box : All (IsInBox l.table) l.duals.items;
}
