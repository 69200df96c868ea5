use Rattle.std.proofs.Common.{◌≡◌, ◌<◌, ℕ, true}
use Rattle.restricted_master.specs.inside.Moving.{is_due}
use Rattle.restricted_master.proofs.pool_duals.mark_all.Given as goal

-- the activities so far
abbrev pub invariant-loop-a : goal.invariant-loop-a
invariant-loop-a l = (a : ℕ) → a < l.a → is_due l.due a ≡ true
