-- The airport of a name: the first of the book that has it, by number. For src/view.rt.
use Rattle.std.specs.Prelude.{ℕ, ◌+◌, List, [], ◌∷◌, Option, None, Some, if◌then◌else◌}
use Rattle.std.specs.Str.{bytes_eq}
use Rattle.tail_book.specs.Seen.{AirportSeen, BookSeen}

-- the number of the first airport of a name, where the first one has number p
abbrev pub named_from : List ℕ → ℕ → List AirportSeen → Option ℕ
named_from name p [] = None
named_from name p (airport ∷ rest) = if bytes_eq airport.name name then Some p else named_from name (p + 1) rest

-- the number of the airport of a name, if the book has one
abbrev pub port_named : BookSeen → List ℕ → Option ℕ
port_named book name = named_from name 0 book.rules.airports
