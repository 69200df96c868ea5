use Rattle.std.proofs.Common.{◌≡◌, map, take}
use Rattle.book_maker.specs.NameNumbers.{place_in}
use Rattle.book_maker.proofs.name_numbers.places_in.Given as goal

abbrev pub invariant-loop-name : goal.invariant-loop-name
invariant-loop-name l = l.places.items ≡ map (place_in l.names.keys) (take l.name-index l.list)
