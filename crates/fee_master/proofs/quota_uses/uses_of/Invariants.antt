use Rattle.std.proofs.Common.{◌≡◌, ◌<◌, ℕ, length}
use Rattle.quota_rows.specs.KeptPlans.{uses_in}
use Rattle.restricted_master.specs.Pool.{route_at}
use Rattle.fee_master.specs.inside.Uses.{times_at}
use Rattle.fee_master.proofs.quota_uses.uses_of.Given as goal

-- the routes so far
abbrev pub invariant-loop-i : goal.invariant-loop-i
invariant-loop-i l = record {
  each : length l.counts.items ≡ l.i;
  uses : (i : ℕ) → i < l.i → times_at l.counts.items i ≡ uses_in l.book l.quota (route_at l.pool i);
}
