-- Marks in which no fact comes twice stay so where a search adds to them. For src/laws.rt.
use Rattle.std.specs.Prelude.{List, [], ◌∷◌, ◌++◌}
use Rattle.tail_book.specs.Seen.{BookSeen}
use Rattle.branch_marks.specs.declared.fact.Fact.{Fact}
use Rattle.branch_marks.specs.declared.fact.Pair.{Pair}
use Rattle.branch_marks.specs.Branches.{IsUndecided, first_branch, second_branch}
use Rattle.branch_marks.specs.Following.{FollowInTurn}
use Rattle.branch_marks.specs.inside.Once.{AreOnce}

-- with facts that follow in turn
abbrev pub StepsStayOnce : Type 0
StepsStayOnce = (book : BookSeen) (marks steps : List Fact) → AreOnce marks → FollowInTurn book marks steps → AreOnce (marks ++ steps)

-- and with either branch of an undecided pair
abbrev pub BranchesStayOnce : Type 0
BranchesStayOnce = (book : BookSeen) (marks : List Fact) (pair : Pair) → AreOnce marks → IsUndecided book marks pair
    → AreOnce (marks ++ first_branch pair ∷ []) × AreOnce (marks ++ second_branch pair ∷ [])
