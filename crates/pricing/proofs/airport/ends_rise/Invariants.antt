use Rattle.std.proofs.Common.{◌≤ℤ◌, ◌+◌, ◌<◌, ℕ, get_or}
use Rattle.tail_book.specs.Lookup.{end_of}
use Rattle.pricing.proofs.airport.ends_rise.Given as goal

abbrev pub invariant-loop-q : goal.invariant-loop-q
invariant-loop-q l = (r : ℕ) → r + 1 < l.q → end_of l.book (get_or l.flights r 0) ≤ℤ end_of l.book (get_or l.flights (r + 1) 0)
