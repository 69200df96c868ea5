use Rattle.std.proofs.Common.{◌≡◌, ◌<◌, ℕ, false}
use Rattle.propagator.specs.inside.Touching.{is_set}
use Rattle.propagator.proofs.flags.clear.Given as goal

abbrev pub invariant-loop-flag : goal.invariant-loop-flag
invariant-loop-flag l = (i : ℕ) → i < l.flag-index → is_set l.flags i ≡ false
