-- The law of homes: those in a published plan are homes for the book. For src/laws.rt.
use Rattle.tail_book.specs.Seen.{BookSeen, RawPlanSeen}
use Rattle.plan_homes.specs.Homes.{homes}
use Rattle.plan_homes.specs.Moves.{AreHomesFor}

-- one for each activity of the book, each nobody or an aircraft of the book
abbrev pub HomesAreForTheBook : Type 0
HomesAreForTheBook = (book : BookSeen) (raw : RawPlanSeen) → AreHomesFor book (homes book raw)
