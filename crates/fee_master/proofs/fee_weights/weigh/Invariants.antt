use Rattle.std.proofs.Common.{◌≡◌, ◌<◌, ℕ, length}
use Rattle.restricted_master.specs.inside.Least.{weight_at}
use Rattle.fee_master.specs.PoolSum.{fee_weight_at}
use Rattle.fee_master.proofs.fee_weights.weigh.Given as goal

-- the routes so far
abbrev pub invariant-loop-i : goal.invariant-loop-i
invariant-loop-i l = record {
  each : length l.weights.items ≡ l.i;
  weighs : (i : ℕ) → i < l.i → weight_at l.weights.items i ≡ fee_weight_at l.fixed.table.now l.fixed.book.now l.fixed.quotas.now l.fixed.pool.now l.duals l.fees i;
}
