use Rattle.std.proofs.Common.{◌≡◌, ◌<◌, ℕ}
use Rattle.restricted_master.specs.Pool.{entry_at}
use Rattle.restricted_master.specs.inside.Least.{entry_weight, weight_at}
use Rattle.restricted_master.proofs.leaping.weigh.Given as goal

-- the routes so far
abbrev pub invariant-loop-i : goal.invariant-loop-i
invariant-loop-i l = (j : ℕ) → j < l.i → weight_at l.weights j ≡ entry_weight l.table l.book l.duals (entry_at l.pool j)
