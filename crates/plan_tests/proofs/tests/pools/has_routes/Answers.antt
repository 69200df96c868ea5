use Rattle.std.proofs.Common.{◌≡◌, ℕ, below_more}
use Rattle.std.specs.Prelude.{Any}
use Rattle.branch_marks.specs.Pool.{Pooled}
use Rattle.plan_tests.proofs.tests.pools.has_routes.Goals as goal

-- one aircraft more
pub loop-k-preserved : goal.loop-k-preserved
loop-k-preserved c =
    below_more (λ (k : ℕ). Any (λ (entry : Pooled). entry.aircraft ≡ k) c.args.pool.now.entries) c.loop-k.k c.loop-k.invariant
    (c.has_route.ensures c.if-not-has_route.false)
