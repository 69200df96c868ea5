use Rattle.std.proofs.Common.{◌≡◌, ◌<◌, ℕ}
use Rattle.std.specs.Prelude.{Any}
use Rattle.branch_marks.specs.Pool.{Pooled}
use Rattle.plan_tests.proofs.tests.pools.has_routes.Given as goal

-- the aircraft so far
abbrev pub invariant-loop-k : goal.invariant-loop-k
invariant-loop-k l = (k : ℕ) → k < l.k → Any (λ (entry : Pooled). entry.aircraft ≡ k) l.pool.entries
