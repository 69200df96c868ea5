use Rattle.std.proofs.Common.{◌≡◌, ◌≤◌, ℕ, false}
use Rattle.propagator.specs.inside.Touching.{is_set}
use Rattle.propagator.proofs.flags.set_from.Given as goal

-- those from n to i are set
abbrev pub invariant-loop-i : goal.invariant-loop-i
invariant-loop-i l = (j : ℕ) → is_set l.flags j ≡ false → (is_set l.initial.flags j ≡ false) × ((l.n ≤ j → l.i ≤ j))
