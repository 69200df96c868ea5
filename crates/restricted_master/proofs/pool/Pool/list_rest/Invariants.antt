use Rattle.std.proofs.Common.{◌≡◌}
use Rattle.restricted_master.proofs.pool.Pool.list_rest.Given as goal

-- nothing is seen of it
abbrev pub invariant-loop-entry : goal.invariant-loop-entry
invariant-loop-entry l = l.self ≡ l.initial.self
