use Rattle.std.proofs.Common.{◌≡◌, [], replicate}
use Rattle.label_store.proofs.store.empty_buckets.Given as goal

-- one empty bucket for each node so far
abbrev pub invariant-loop-node : goal.invariant-loop-node
invariant-loop-node l = l.buckets.items ≡ replicate l._node []
