-- How many activities no Must names: each Must of an only carrier makes it less, so propagation comes to an end.
-- For src/carriers.rt.
use Rattle.std.specs.Prelude.{ℕ, List, Bool, if◌then◌else◌}
use Rattle.tail_book.specs.Seen.{BookSeen}
use Rattle.tail_book.specs.Lookup.{activities, aircraft}
use Rattle.branch_marks.specs.declared.fact.Fact.{Fact}
use Rattle.branch_marks.specs.declared.fact.Fact.TheVariants.{Must}
use Rattle.branch_marks.specs.Below.{some_below, count_below}
use Rattle.branch_marks.specs.FactTests.{has_fact}

-- some Must gives a to an aircraft of the book
abbrev pub is_named : BookSeen → List Fact → ℕ → Bool
is_named book marks a = some_below (λ k. has_fact marks (Must k a)) (aircraft book)

-- the book's activities that no Must names
unfoldable pub unnamed : BookSeen → List Fact → ℕ
unnamed book marks = count_below (λ a. if is_named book marks a then 0 else 1) (activities book)
