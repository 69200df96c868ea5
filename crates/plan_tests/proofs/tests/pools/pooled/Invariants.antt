use Rattle.restricted_master.specs.Pool.{IsPoolFor}
use Rattle.plan_tests.proofs.tests.pools.pooled.Given as goal

-- the routes so far
abbrev pub invariant-loop-q : goal.invariant-loop-q
invariant-loop-q l = IsPoolFor l.table l.book l.pool
