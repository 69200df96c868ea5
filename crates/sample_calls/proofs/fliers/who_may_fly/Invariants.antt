use Rattle.tail_book.specs.LegalTests.{is_allowed}
use Rattle.sample_calls.proofs.Found.{AreFound}
use Rattle.sample_calls.proofs.fliers.who_may_fly.Given as goal

-- those so far that may fly it are in the list
abbrev pub invariant-loop-k : goal.invariant-loop-k
invariant-loop-k l = AreFound (λ j. is_allowed l.book j l.a) l.k l.list.items
