-- What a way to find a shortage may hand on. For src/judging.rt, src/shrinking.rt and src/finder.rt.
use Rattle.tail_book.specs.Seen.{BookSeen}
use Rattle.plan_shortage.specs.Shortage.{IsShortage}
use Rattle.shortage_finder.specs.declared.found.FoundShortage.{FoundShortage}
use Rattle.shortage_finder.specs.Causes.{IsCauseIn}

-- a shortage of the book, and a cause that the book has
pub record IsFoundIn (book : BookSeen) (it : FoundShortage) : Type 0 where
  pub shortage : IsShortage book it.asked.items it.brought.items it.mosts.items
  pub cause : IsCauseIn book it.cause
