-- That each of these tests is true exactly where its fact holds. For src/laws/deciding.rt.
use Rattle.std.specs.Prelude.{ℕ, List}
use Rattle.std.specs.Bool.{Decides}
use Rattle.tail_book.specs.Seen.{BookSeen}
use Rattle.tail_book.specs.declared.place.Place.{Place}
use Rattle.branch_marks.specs.declared.fact.Fact.{Fact}
use Rattle.branch_marks.specs.Facts.{IsFactOf}
use Rattle.branch_marks.specs.Marks.{IsAlive, IsUsable, MayEnd, Fits}
use Rattle.branch_marks.specs.MarkTests.{is_fact_of, is_alive, is_usable, may_end, fits}

-- each test is true exactly where its definition holds
abbrev pub FactOfDecides : Type 0
FactOfDecides = (book : BookSeen) (fact : Fact) → Decides (is_fact_of book fact) (IsFactOf book fact)

abbrev pub AliveDecides : Type 0
AliveDecides = (book : BookSeen) (marks : List Fact) (k a : ℕ) → Decides (is_alive book marks k a) (IsAlive book marks k a)

abbrev pub UsableDecides : Type 0
UsableDecides = (book : BookSeen) (marks : List Fact) (k : ℕ) (x : Place) (b : ℕ) → Decides (is_usable book marks k x b) (IsUsable book marks k x b)

abbrev pub MayEndDecides : Type 0
MayEndDecides = (marks : List Fact) (k : ℕ) (x : Place) → Decides (may_end marks k x) (MayEnd marks k x)

abbrev pub FitsDecides : Type 0
FitsDecides = (book : BookSeen) (marks : List Fact) (k : ℕ) (route : List ℕ) → Decides (fits book marks k route) (Fits book marks k route)
