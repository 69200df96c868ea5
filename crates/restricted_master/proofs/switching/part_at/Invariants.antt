use Rattle.std.proofs.Common.{◌≡◌, ◌+ℤ◌, ◌-ℤ◌, ◌*◌, ◌+◌, ◌^◌, pos, drop}
use Rattle.tail_book.specs.Ranges.{IsWithin}
use Rattle.restricted_master.specs.inside.Choices.{all_taken, part_at}
use Rattle.restricted_master.proofs.switching.part_at.Given as goal

-- what is left is missing; and each aircraft adds at most 2^63
abbrev pub invariant-loop-k : goal.invariant-loop-k
invariant-loop-k l = record {
  so_far : (l.sum +ℤ all_taken l.dual (drop l.k l.choices)) ≡ part_at l.dual l.choices;
  range : IsWithin (pos 0 -ℤ pos ((l.k + 1) * 2 ^ 63)) (pos ((l.k + 1) * 2 ^ 63)) l.sum;
}
