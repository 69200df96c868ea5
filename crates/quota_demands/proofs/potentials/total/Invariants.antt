use Rattle.std.proofs.Common.{◌≡◌, ◌+ℤ◌, ◌-ℤ◌, ◌*◌, ◌^◌, pos, drop}
use Rattle.tail_book.specs.Ranges.{IsWithin}
use Rattle.tail_book.specs.Sums.{total}
use Rattle.quota_demands.proofs.potentials.total.Given as goal

-- what is left is missing; and each number adds at most 2^63
abbrev pub invariant-loop-i : goal.invariant-loop-i
invariant-loop-i l = record {
  so_far : (l.sum +ℤ total (drop l.i l.list)) ≡ total l.list;
  range : IsWithin (pos 0 -ℤ pos (l.i * 2 ^ 63)) (pos (l.i * 2 ^ 63)) l.sum;
}
