-- What a Must of an aircraft cuts off: no link over it is usable for that aircraft.
-- For src/due_floors.rt, src/lowering.rt and others.
use Rattle.std.specs.Prelude.{ℕ, ◌≡◌, ◌<◌, ◌≤◌, List, true, false}
use Rattle.tail_book.specs.Seen.{BookSeen}
use Rattle.tail_book.specs.declared.place.Place.TheVariants.{After}
use Rattle.branch_marks.specs.declared.fact.Fact.{Fact}
use Rattle.branch_marks.specs.declared.fact.Fact.TheVariants.{Must}
use Rattle.branch_marks.specs.FactTests.{has_fact}
use Rattle.branch_marks.specs.MarkTests.{is_usable}

-- what lies below c leads aircraft k to b, and to what comes later, over no link
pub record IsCutOff (book : BookSeen) (marks : List Fact) (k b c : ℕ) : Type 0 where
  pub before : c ≤ b
  pub links : (x y : ℕ) → x < c → b ≤ y → is_usable book marks k (After x) y ≡ false

-- a Must cuts off what lies before its activity
abbrev pub MustsCutOff : Type 0
MustsCutOff = (book : BookSeen) (marks : List Fact) (k b c : ℕ) → has_fact marks (Must k c) ≡ true → c < b → IsCutOff book marks k b c
