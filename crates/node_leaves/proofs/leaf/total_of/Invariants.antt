use Rattle.std.proofs.Common.{◌≡◌, ◌*◌, ◌^◌, pos, ◌+ℤ◌, ◌≤ℤ◌, take}
use Rattle.tail_book.specs.Sums.{total}
use Rattle.node_leaves.proofs.leaf.total_of.Given as goal

-- the values before the next one are added, and each is of 64 bits
abbrev pub invariant-loop-i : goal.invariant-loop-i
invariant-loop-i l = record {
  sum : l.sum ≡ total (take l.i l.values);
  least : pos 0 ≤ℤ (l.sum +ℤ pos (l.i * 2 ^ 63));
  most : l.sum ≤ℤ pos (l.i * 2 ^ 63);
}
