use Rattle.std.proofs.Common.{◌≡◌, ◌≤ℤ◌, ◌-ℤ◌, ◌+◌, pos, false}
use Rattle.std.specs.Prelude.{if◌then◌else◌}
use Rattle.branch_marks.specs.Bound.{bound_of}
use Rattle.fee_master.specs.inside.Settling.{AreAllSettled, IsClear, IsPriced, greatest_sum, sum_for}
use Rattle.fee_master.proofs.settling.climb.Given as goal

-- the sum is no less than at the beginning; once nothing has moved, each place is settled
abbrev pub invariant-loop-moved : goal.invariant-loop-moved
invariant-loop-moved l = record {
  priced : IsPriced l.fixed l.duals l.fees l.weights;
  clear : IsClear l.fixed l.times;
  no_less : sum_for l.fixed l.initial.duals l.initial.fees ≤ℤ sum_for l.fixed l.duals l.fees;
  done : l.moved ≡ false → AreAllSettled l.fixed l.duals l.fees;
}

-- what is left between the sum and its bound, and one more while something has just moved
abbrev pub decreases-loop-moved : goal.decreases-loop-moved
decreases-loop-moved l = bound_of (pos (greatest_sum l.fixed) -ℤ sum_for l.fixed l.duals l.fees) + (if l.moved then 1 else 0)
