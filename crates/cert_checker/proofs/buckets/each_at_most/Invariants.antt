use Rattle.std.proofs.Common.{◌≡◌, drop}
use Rattle.tail_book.specs.CounterOrder.{each_at_most}
use Rattle.cert_checker.proofs.buckets.each_at_most.Given as goal

-- the values that are left decide
abbrev pub invariant-loop-c : goal.invariant-loop-c
invariant-loop-c l = each_at_most l.values l.others ≡ each_at_most (drop l.c l.values) (drop l.c l.others)
