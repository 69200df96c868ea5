-- That each of these tests is true exactly where its fact holds. For src/laws/deciding.rt.
use Rattle.std.specs.Prelude.{List}
use Rattle.std.specs.Bool.{Decides}
use Rattle.tail_book.specs.Seen.{BookSeen}
use Rattle.branch_marks.specs.declared.fact.Fact.{Fact}
use Rattle.branch_marks.specs.Following.{Follows, IsShut}
use Rattle.branch_marks.specs.FollowingTests.{follows, is_shut}

-- each test is true exactly where its definition holds
abbrev pub FollowsDecides : Type 0
FollowsDecides = (book : BookSeen) (marks : List Fact) (fact : Fact) → Decides (follows book marks fact) (Follows book marks fact)

abbrev pub ShutDecides : Type 0
ShutDecides = (book : BookSeen) (marks : List Fact) → Decides (is_shut book marks) (IsShut book marks)
