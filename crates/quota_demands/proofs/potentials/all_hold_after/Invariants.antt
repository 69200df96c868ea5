use Rattle.std.specs.Prelude.{◌<◌, ℕ}
use Rattle.quota_demands.specs.Potentials.{HoldAfter}
use Rattle.quota_demands.proofs.potentials.all_hold_after.Given as goal

-- so it is of those so far
abbrev pub invariant-loop-b : goal.invariant-loop-b
invariant-loop-b l = (b : ℕ) → b < l.b → HoldAfter l.book l.quota l.coming l.leaving b
