use Rattle.std.proofs.Common.{◌≡◌, ℕ, take}
use Rattle.tail_book.specs.Numbers.{contains}
use Rattle.turn_rules.specs.inside.NumberSet.{has}
use Rattle.turn_rules.proofs.number_set.NumberSet.of.Given as goal

-- the set has the numbers so far
abbrev pub invariant-loop-number : goal.invariant-loop-number
invariant-loop-number l = (i : ℕ) → has l.set i ≡ contains (take l.number-index l.numbers) i
