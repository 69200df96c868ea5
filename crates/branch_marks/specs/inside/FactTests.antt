-- That each of these tests is true exactly where its fact holds. For src/laws/deciding.rt.
use Rattle.std.specs.Prelude.{List, Contains}
use Rattle.std.specs.Bool.{Decides}
use Rattle.branch_marks.specs.declared.fact.Fact.{Fact}
use Rattle.branch_marks.specs.FactTests.{has_fact}

-- the test is true exactly where they do
abbrev pub HasFactDecides : Type 0
HasFactDecides = (marks : List Fact) (fact : Fact) → Decides (has_fact marks fact) (Contains marks fact)
