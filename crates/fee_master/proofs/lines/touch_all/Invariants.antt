use Rattle.std.proofs.Common.{◌≤◌, ◌*◌, ◌-ℤ◌, ◌^◌, pos}
use Rattle.tail_book.specs.Ranges.{IsWithin}
use Rattle.fee_master.specs.inside.Lines.{IsTouching}
use Rattle.fee_master.proofs.lines.touch_all.Given as goal

-- the aircraft so far; each adds at most 2^63, and pays at most 2^32 times
abbrev pub invariant-loop-k : goal.invariant-loop-k
invariant-loop-k l = record {
  touching : IsTouching l.fixed.pool.now l.k l.weights l.times l.rise l.touching.sum l.touching.count;
  range : IsWithin (pos 0 -ℤ pos (l.k * 2 ^ 63)) (pos (l.k * 2 ^ 63)) l.touching.sum;
  few : l.touching.count ≤ l.k * 2 ^ 32;
}
