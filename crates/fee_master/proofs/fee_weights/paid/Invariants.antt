use Rattle.std.proofs.Common.{◌≡◌, ◌+ℤ◌, ◌-ℤ◌, ◌*◌, ◌^◌, pos, drop}
use Rattle.tail_book.specs.Ranges.{IsWithin}
use Rattle.fee_master.specs.inside.Uses.{paid}
use Rattle.fee_master.proofs.fee_weights.paid.Given as goal

-- what is left is missing; and each quota adds at most 2^109
abbrev pub invariant-loop-q : goal.invariant-loop-q
invariant-loop-q l = record {
  so_far : (l.sum +ℤ paid (drop l.q l.uses) (drop l.q l.fees) l.i) ≡ paid l.uses l.fees l.i;
  range : IsWithin (pos 0 -ℤ pos (l.q * 2 ^ 109)) (pos (l.q * 2 ^ 109)) l.sum;
}
