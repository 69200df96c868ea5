use Rattle.std.proofs.Common.{◌≡◌, drop}
use Rattle.book_maker.specs.NameNumbers.{distinct_names, distinct_from}
use Rattle.book_maker.proofs.name_numbers.distinct_names.Given as goal

-- what is left decides
abbrev pub invariant-loop-name : goal.invariant-loop-name
invariant-loop-name l = distinct_names l.names ≡ distinct_from l.set.keys (drop l.name-index l.names)
