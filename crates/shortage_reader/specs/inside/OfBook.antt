-- What is told is of a book. For src/shortage_text.rt.
use Rattle.std.specs.Prelude.{◌<◌, All}
use Rattle.tail_book.specs.Seen.{BookSeen}
use Rattle.tail_book.specs.Lookup.{activities}
use Rattle.shortage_reader.specs.Told.{ToldSeen}

-- the asked and the brought activities are the book's
pub record IsToldOf (book : BookSeen) (told : ToldSeen) : Type 0 where
  pub asked : All (λ a. a < activities book) told.asked
  pub brought : All (λ a. a < activities book) told.brought
