-- Which shortages can be told: their activities and counters are of the book, there is a most for each aircraft, none is negative, and
-- all come to a number of 64 bits. For src/report.rt and src/shortage_lines.rt.
use Rattle.std.specs.Prelude.{ℕ, ℤ, pos, ◌≤ℤ◌, ◌<ℤ◌, ◌<◌, ◌≡◌, ◌^◌, ⊤, List, All, length}
use Rattle.tail_book.specs.Seen.{BookSeen}
use Rattle.tail_book.specs.Lookup.{activities, aircraft}
use Rattle.tail_book.specs.Sums.{total}
use Rattle.shortage_finder.specs.Causes.{IsCauseIn}
use Rattle.shortage_finder.specs.declared.found.Cause.{Cause}
use Rattle.shortage_report.specs.declared.why.Why.{Why}
use Rattle.shortage_report.specs.declared.why.Why.TheVariants.{Feasible, Short, Nothing}

-- a most for each aircraft, none below 0, and all together small
pub record AreShares (book : BookSeen) (mosts : List ℤ) : Type 0 where
  pub one_each : length mosts ≡ aircraft book
  pub none_below : All (λ most. pos 0 ≤ℤ most) mosts
  pub small : total mosts <ℤ pos (2 ^ 63)

-- what is told of a shortage has a name
pub record HasNames (book : BookSeen) (cause : Cause) (asked brought : List ℕ) (mosts : List ℤ) : Type 0 where
  pub of_cause : IsCauseIn book cause
  pub of_asked : All (λ a. a < activities book) asked
  pub of_brought : All (λ a. a < activities book) brought
  pub shares : AreShares book mosts

-- what is told: that a plan is legal, a shortage, or activities of the book that are left out
abbrev pub CanBeTold : BookSeen → Why → Type 0
CanBeTold book Feasible = ⊤
CanBeTold book (Short found) = HasNames book found.cause found.asked.items found.brought.items found.mosts.items
CanBeTold book (Nothing uncovered) = All (λ a. a < activities book) uncovered.items
