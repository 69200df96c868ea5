use Rattle.std.proofs.Common.{◌≡◌, ◌<◌, ℕ, true}
use Rattle.propagator.specs.inside.Touching.{is_set}
use Rattle.propagator.proofs.flags.set_each.Given as goal

abbrev pub invariant-loop-flag : goal.invariant-loop-flag
invariant-loop-flag l = (i : ℕ) → i < l.flag-index → is_set l.flags i ≡ true
