use Rattle.std.proofs.Common.{◌≡◌, drop}
use Rattle.tail_book.specs.CounterOrder.{each_at_most}
use Rattle.label_store.proofs.bucket.covers.Given as goal

-- what is left decides
abbrev pub invariant-loop-c : goal.invariant-loop-c
invariant-loop-c l = each_at_most (drop l.c l.one) (drop l.c l.other) ≡ each_at_most l.one l.other
