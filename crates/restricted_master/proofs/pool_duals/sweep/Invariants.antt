use Rattle.std.proofs.Common.{◌≡◌, ◌<◌, ◌≤ℤ◌, ◌+ℤ◌, ℕ, pos, true, false, length}
use Rattle.tail_book.specs.Lookup.{aircraft}
use Rattle.tail_book.specs.CostTable.{cost_unit}
use Rattle.branch_marks.specs.Pool.{sum_in}
use Rattle.restricted_master.specs.inside.Least.{IsWeighed}
use Rattle.restricted_master.specs.inside.Moving.{is_due, IsWork}
use Rattle.restricted_master.proofs.pool_duals.sweep.Given as goal

-- either a cost unit has been gained, or no dual has moved and no activity so far is marked
abbrev pub invariant-loop-a : goal.invariant-loop-a
invariant-loop-a l = record {
  each : length l.choices ≡ aircraft l.book;
  weighed : IsWeighed l.table l.book l.pool l.lists l.duals l.weights l.values;
  work : IsWork l.table l.book l.pool.entries l.duals l.due;
  still : l.moved ≡ false → (l.duals ≡ l.initial.duals) × ((b : ℕ) → b < l.a → is_due l.due b ≡ false);
  risen : l.moved ≡ true → (sum_in l.table l.book l.initial.duals l.pool.entries +ℤ pos cost_unit) ≤ℤ sum_in l.table l.book l.duals l.pool.entries;
}
