use Rattle.std.proofs.Common.{◌≡◌, drop}
use Rattle.tail_text.specs.Checks.{look_each}
use Rattle.book_maker.specs.NameNumbers.{number_in}
use Rattle.tail_text.specs.inside.Joined.{joined}
use Rattle.book_maker.proofs.name_numbers.numbers_in.Given as goal

-- each name so far has its number, and what is left decides
abbrev pub invariant-loop-i : goal.invariant-loop-i
invariant-loop-i l = look_each (number_in l.names.keys) l.list ≡ joined l.numbers.items (look_each (number_in l.names.keys) (drop l.i l.list))
