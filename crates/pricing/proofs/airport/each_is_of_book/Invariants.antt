use Rattle.std.proofs.Common.{◌<◌, ℕ, get_or}
use Rattle.tail_book.specs.Lookup.{activities}
use Rattle.pricing.proofs.airport.each_is_of_book.Given as goal

abbrev pub invariant-loop-q : goal.invariant-loop-q
invariant-loop-q l = (r : ℕ) → r < l.q → get_or l.grounds r 0 < activities l.book
