use Rattle.std.proofs.Common.{◌≡◌, ◌*◌, ◌^◌, drop, pos, ◌≤ℤ◌}
use Rattle.std.specs.Prelude.{◌+ℤ◌}
use Rattle.tail_book.specs.Sums.{total}
use Rattle.cert_checker.proofs.bound.total.Given as goal

-- the duals that are left complete the sum, which is small so far
abbrev pub invariant-loop-i : goal.invariant-loop-i
invariant-loop-i l = record {
  sum : total l.duals ≡ l.sum +ℤ total (drop l.i l.duals);
  least : pos 0 ≤ℤ (l.sum +ℤ pos (l.i * 2 ^ 63));
  most : l.sum ≤ℤ pos (l.i * 2 ^ 63);
}
