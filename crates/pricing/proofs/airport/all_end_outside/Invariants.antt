use Rattle.std.proofs.Common.{◌<◌, ℕ, get_or}
use Rattle.tail_book.specs.declared.rules.Band.{Band}
use Rattle.pricing.specs.inside.Lines.{EndsOutside}
use Rattle.pricing.proofs.airport.all_end_outside.Given as goal

abbrev pub invariant-loop-i : goal.invariant-loop-i
invariant-loop-i l = (q : ℕ) (d : Band) → q < l.i → EndsOutside l.lo l.hi (get_or l.bands q d)
