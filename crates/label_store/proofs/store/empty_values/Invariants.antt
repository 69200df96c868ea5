use Rattle.std.proofs.Common.{◌≡◌, [], replicate}
use Rattle.label_store.proofs.store.empty_values.Given as goal

-- no values for each node so far
abbrev pub invariant-loop-node : goal.invariant-loop-node
invariant-loop-node l = l.packed.items ≡ replicate l._node []
