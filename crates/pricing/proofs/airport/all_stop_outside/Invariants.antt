use Rattle.std.proofs.Common.{◌<◌, ℕ, get_or}
use Rattle.tail_book.specs.Seen.{CounterSeen}
use Rattle.pricing.specs.inside.Lines.{StopsOutside}
use Rattle.pricing.proofs.airport.all_stop_outside.Given as goal

abbrev pub invariant-loop-i : goal.invariant-loop-i
invariant-loop-i l = (q : ℕ) (d : CounterSeen) → q < l.i → StopsOutside l.port l.lo l.hi (get_or l.counters q d)
