use Rattle.std.proofs.Common.{◌≡◌, ◌+ℤ◌, ◌≤ℤ◌, pos, drop}
use Rattle.tail_book.specs.Sums.{total}
use Rattle.shortage_report.proofs.shares.total.Given as goal

-- what is left is missing, and nothing so far was negative
abbrev pub invariant-loop-i : goal.invariant-loop-i
invariant-loop-i l = record {
  so_far : (l.sum +ℤ total (drop l.i l.list)) ≡ total l.list;
  range : pos 0 ≤ℤ l.sum;
}
