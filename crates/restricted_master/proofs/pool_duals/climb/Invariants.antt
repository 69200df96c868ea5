use Rattle.std.proofs.Common.{◌≡◌, ◌<◌, ◌≤ℤ◌, ◌-ℤ◌, ◌+◌, ℕ, pos, false, length}
use Rattle.std.specs.Prelude.{if◌then◌else◌}
use Rattle.tail_book.specs.Lookup.{activities, aircraft}
use Rattle.branch_marks.specs.Bound.{bound_of}
use Rattle.branch_marks.specs.Pool.{sum_in}
use Rattle.restricted_master.specs.inside.Leaps.{IsLeapRoom}
use Rattle.restricted_master.specs.inside.Least.{greatest_sum, IsWeighed}
use Rattle.restricted_master.specs.inside.Moving.{IsSettledAt, IsWork}
use Rattle.restricted_master.proofs.pool_duals.climb.Given as goal

-- the sum is no less than at the beginning; once no dual has moved, each activity is settled
abbrev pub invariant-loop-moved : goal.invariant-loop-moved
invariant-loop-moved l = record {
  each : length l.choices ≡ aircraft l.book;
  weighed : IsWeighed l.table l.book l.pool l.lists l.duals l.weights l.values;
  work : IsWork l.table l.book l.pool.entries l.duals l.due;
  room : IsLeapRoom l.book l.pool l.leap;
  no_less : sum_in l.table l.book l.initial.duals l.pool.entries ≤ℤ sum_in l.table l.book l.duals l.pool.entries;
  done : l.moved ≡ false → (a : ℕ) → a < activities l.book → IsSettledAt l.table l.book l.pool.entries l.duals a;
}

-- what is left between the sum and its bound, and one more while a dual has just moved
abbrev pub decreases-loop-moved : goal.decreases-loop-moved
decreases-loop-moved l =
    bound_of (pos (greatest_sum l.book) -ℤ sum_in l.table l.book l.duals l.pool.entries) + (if l.moved then 1 else 0)
