-- The routes before k are copied.
use Rattle.std.proofs.Common.{◌≡◌, take}
use Rattle.node_leaves.proofs.best.plan_of.Given as goal

abbrev pub invariant-loop-k : goal.invariant-loop-k
invariant-loop-k l = l.copied.items ≡ take l.k l.routes
