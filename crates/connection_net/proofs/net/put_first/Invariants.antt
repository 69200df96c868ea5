use Rattle.std.proofs.Common.{◌≡◌, take}
use Rattle.std.specs.List.{filter}
use Rattle.tail_book.specs.declared.place.Place.TheVariants.{Carry}
use Rattle.tail_book.specs.LegalTests.{is_link}
use Rattle.connection_net.proofs.net.put_first.Given as goal

-- those of the numbers so far
abbrev pub invariant-loop-b : goal.invariant-loop-b
invariant-loop-b l = l.row.items ≡ filter (is_link l.book l.k Carry) (take l.b-index l.list)
