use Rattle.std.proofs.Common.{◌≡◌, ◌+ℤ◌, ◌-ℤ◌, ◌*◌, ◌^◌, pos, drop}
use Rattle.tail_book.specs.Ranges.{IsWithin}
use Rattle.quota_rows.specs.Fees.{fees_at_most}
use Rattle.fee_master.proofs.sums.fees_at_most.Given as goal

-- what is left is missing; and each quota adds at most 2^109
abbrev pub invariant-loop-q : goal.invariant-loop-q
invariant-loop-q l = record {
  so_far : (l.sum +ℤ fees_at_most (drop l.q l.quotas) (drop l.q l.fees)) ≡ fees_at_most l.quotas l.fees;
  range : IsWithin (pos 0 -ℤ pos (l.q * 2 ^ 109)) (pos (l.q * 2 ^ 109)) l.sum;
}
