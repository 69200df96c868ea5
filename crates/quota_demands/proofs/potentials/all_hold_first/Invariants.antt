use Rattle.std.specs.Prelude.{◌<◌, ℕ}
use Rattle.quota_demands.specs.Potentials.{HoldFirst}
use Rattle.quota_demands.proofs.potentials.all_hold_first.Given as goal

-- so it is of those so far
abbrev pub invariant-loop-k : goal.invariant-loop-k
invariant-loop-k l = (k : ℕ) → k < l.k → HoldFirst l.book l.coming l.carried k
