-- The laws of what is told: a shortage of a book can be told, and what is told of no legal plan leaves none. For src/laws.rt.
use Rattle.std.specs.Prelude.{ℕ, ℤ, List}
use Rattle.tail_book.specs.Seen.{BookSeen}
use Rattle.tail_book.specs.Truth.{HasNoPlan}
use Rattle.tail_book.specs.inside.Sound.{IsBook}
use Rattle.plan_shortage.specs.Shortage.{IsShortage}
use Rattle.shortage_finder.specs.Causes.{IsCauseIn}
use Rattle.shortage_finder.specs.declared.found.Cause.{Cause}
use Rattle.shortage_report.specs.Why.{IsTrueWhy, TellsOfNone}
use Rattle.shortage_report.specs.declared.why.Why.{Why}
use Rattle.shortage_report.specs.inside.Told.{HasNames}

-- the law of shortages that are told
abbrev pub ShortagesCanBeTold : Type 0
ShortagesCanBeTold = (book : BookSeen) → IsBook book → (cause : Cause) (asked brought : List ℕ) (mosts : List ℤ)
    → IsShortage book asked brought mosts → IsCauseIn book cause → HasNames book cause asked brought mosts

-- the law of what is told of no legal plan
abbrev pub TrueWhysLeaveNoPlan : Type 0
TrueWhysLeaveNoPlan = (book : BookSeen) (why : Why) → IsTrueWhy book why → TellsOfNone why → HasNoPlan book
