use Rattle.std.proofs.Common.{◌+ℤ◌, ◌-ℤ◌, pos}
use Rattle.branch_marks.specs.Bound.{bound_of}
use Rattle.fee_master.specs.inside.Settling.{IsSearchedFor}
use Rattle.fee_master.proofs.best_rise.search.Given as goal

-- no rise that is not left is better than the best so far
abbrev pub invariant-loop-range : goal.invariant-loop-range
invariant-loop-range l = IsSearchedFor l.fixed l.weights l.times l.most l.low l.high l.range

-- the rises that are left
abbrev pub decreases-loop-range : goal.decreases-loop-range
decreases-loop-range l = bound_of ((l.range.to -ℤ l.range.from) +ℤ pos 1)
