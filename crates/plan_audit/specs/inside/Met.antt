-- What holds of a name that is met: its number is of the book, or it is dropped and has none.
use Rattle.std.specs.Prelude.{◌<◌, ⊤}
use Rattle.tail_book.specs.Seen.{BookSeen}
use Rattle.tail_book.specs.Lookup.{activities, aircraft}
use Rattle.plan_audit.specs.declared.met.Met.{Met}
use Rattle.plan_audit.specs.declared.met.Met.TheVariants.{Unknown, Twice, Tail, Activity}

-- the number of a name that is met is of the book
abbrev pub IsMetOf : BookSeen → Met → Type 0
IsMetOf book (Unknown name) = ⊤
IsMetOf book (Twice name) = ⊤
IsMetOf book (Tail k) = k < aircraft book
IsMetOf book (Activity a) = a < activities book

-- a name is met as one that is unknown or was met before
abbrev pub IsDropped : Met → Type 0
IsDropped (Unknown name) = ⊤
IsDropped (Twice name) = ⊤
IsDropped (Tail k) = ⊥
IsDropped (Activity a) = ⊥
