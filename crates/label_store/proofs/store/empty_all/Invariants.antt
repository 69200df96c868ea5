use Rattle.std.proofs.Common.{◌≡◌, [], take, replicate}
use Rattle.label_store.proofs.store.empty_all.Given as goal

-- those so far are empty
abbrev pub invariant-loop-node : goal.invariant-loop-node
invariant-loop-node l = take l.node l.buckets ≡ replicate l.node []
