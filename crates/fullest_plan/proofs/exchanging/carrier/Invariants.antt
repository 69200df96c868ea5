use Rattle.std.proofs.Common.{◌<◌}
use Rattle.tail_book.specs.Lookup.{aircraft}
use Rattle.fullest_plan.proofs.exchanging.carrier.Given as goal

-- one of the book's aircraft
abbrev pub invariant-loop-number : goal.invariant-loop-number
invariant-loop-number l = l.k < aircraft l.book
