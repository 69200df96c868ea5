-- The law of what is left out. For src/laws.rt.
use Rattle.std.specs.Prelude.{ℕ, ◌<◌, List, All}
use Rattle.tail_book.specs.Seen.{BookSeen}
use Rattle.tail_book.specs.Lookup.{activities}
use Rattle.fullest_plan.specs.LeftOut.{IsLeftOut}

-- what is left out are activities of the book
abbrev pub LeftOutAreOfBook : Type 0
LeftOutAreOfBook = (book : BookSeen) (list : List ℕ) → IsLeftOut book list → All (λ a. a < activities book) list
