use Rattle.std.proofs.Common.{◌≡◌, [], take, replicate}
use Rattle.label_store.proofs.store.empty_all_values.Given as goal

-- those so far are empty
abbrev pub invariant-loop-node : goal.invariant-loop-node
invariant-loop-node l = take l.node l.packed ≡ replicate l.node []
