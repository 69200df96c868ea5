use Rattle.std.proofs.Common.{◌≡◌, ◌+◌, ◌*◌, ◌<◌, ◌≤◌, ℕ, false}
use Rattle.branch_marks.specs.inside.BitRows.{bit}
use Rattle.branch_marks.proofs.bit_rows.next.Given as goal

-- nothing is set up to the place that the next word is looked at from
abbrev pub invariant-loop-w : goal.invariant-loop-w
invariant-loop-w l = record {
  low : l.low < 64;
  begun : l.from ≤ 64 * l.w + l.low;
  none : (q : ℕ) → l.from ≤ q → q < 64 * l.w + l.low → bit l.words q ≡ false;
}
