-- What a cause may name. For src/finder.rt.
use Rattle.std.specs.Prelude.{ℕ, ⊤, ◌<◌, length}
use Rattle.tail_book.specs.Seen.{BookSeen}
use Rattle.shortage_finder.specs.declared.found.Cause.{Cause}
use Rattle.shortage_finder.specs.declared.found.Cause.TheVariants.{Alone, Airport, Crowd, Counter}

-- a counter that a cause names is one of the book's; the other causes name nothing
abbrev pub IsCauseIn : BookSeen → Cause → Type 0
IsCauseIn book Alone = ⊤
IsCauseIn book Airport = ⊤
IsCauseIn book Crowd = ⊤
IsCauseIn book (Counter c) = c < length book.rules.counters
