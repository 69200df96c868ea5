use Rattle.std.proofs.Common.{◌≡◌, ◌++◌, drop}
use Rattle.plan_picture.specs.Shares.{share_texts}
use Rattle.plan_picture.proofs.shares.add_shares.Given as goal

-- the shares so far, and those that are left
abbrev pub invariant-loop-c : goal.invariant-loop-c
invariant-loop-c l = l.initial.line ++ share_texts 0 l.counters l.values ≡ l.line ++ share_texts l.c (drop l.c l.counters) (drop l.c l.values)
