use Rattle.std.proofs.Common.{◌≡◌, ◌<◌, ℕ, length}
use Rattle.restricted_master.specs.Pool.{entry_at}
use Rattle.restricted_master.specs.inside.Least.{entry_weight, weight_at}
use Rattle.restricted_master.proofs.pool_duals.weigh.Given as goal

-- the routes so far
abbrev pub invariant-loop-i : goal.invariant-loop-i
invariant-loop-i l = record {
  each : length l.weights.items ≡ l.i;
  weighs : (j : ℕ) → j < l.i → weight_at l.weights.items j ≡ entry_weight l.table l.book l.duals (entry_at l.pool j);
}
