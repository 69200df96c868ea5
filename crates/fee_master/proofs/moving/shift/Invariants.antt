use Rattle.std.proofs.Common.{◌≡◌, ◌<◌, ◌≤◌, ℕ}
use Rattle.restricted_master.specs.inside.Least.{weight_at}
use Rattle.fee_master.specs.inside.Lines.{line_at}
use Rattle.fee_master.proofs.moving.shift.Given as goal

-- the weights so far have risen, and the others have not
abbrev pub invariant-loop-i : goal.invariant-loop-i
invariant-loop-i l = record {
  risen : (i : ℕ) → i < l.i → weight_at l.weights i ≡ line_at l.initial.weights l.times l.rise i;
  same : (i : ℕ) → l.i ≤ i → weight_at l.weights i ≡ weight_at l.initial.weights i;
}
