use Rattle.std.proofs.Common.{◌≡◌, ◌+ℤ◌, ◌-ℤ◌, ◌*◌, ◌^◌, pos, drop}
use Rattle.tail_book.specs.Ranges.{IsWithin}
use Rattle.branch_marks.specs.Weights.{duals_on}
use Rattle.fee_master.proofs.fee_weights.duals_on.Given as goal

-- what is left is missing; and each dual adds at most 2^63
abbrev pub invariant-loop-q : goal.invariant-loop-q
invariant-loop-q l = record {
  so_far : (l.sum +ℤ duals_on l.duals (drop l.q l.route)) ≡ duals_on l.duals l.route;
  range : IsWithin (pos 0 -ℤ pos (l.q * 2 ^ 63)) (pos (l.q * 2 ^ 63)) l.sum;
}
