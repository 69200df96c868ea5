use Rattle.std.proofs.Common.{◌<◌, length}
use Rattle.std.specs.Prelude.{IfSome}
use Rattle.shortage_suspects.proofs.counters.tightest_cleared.Given as goal

-- the tightest so far is a counter of the book
abbrev pub invariant-loop-c : goal.invariant-loop-c
invariant-loop-c l = IfSome l.tightest (λ c. c < length l.book.rules.counters)
