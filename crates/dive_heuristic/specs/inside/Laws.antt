-- Laws of dives, over the definitions alone: why each choice brings a dive nearer to its end.
use Rattle.std.specs.Prelude.{ℕ, ◌≤◌, ◌++◌, List}
use Rattle.tail_book.specs.Seen.{BookSeen}
use Rattle.tail_book.specs.inside.Sound.{IsBook}
use Rattle.branch_marks.specs.declared.fact.Fact.{Fact}
use Rattle.branch_marks.specs.declared.fact.Pair.TheVariants.{Fly}
use Rattle.branch_marks.specs.Branches.{IsUndecided}
use Rattle.branch_marks.specs.inside.BranchTests.{undecided}
use Rattle.dive_heuristic.specs.LeastRoutes.{AreRoutesOfFleet}
use Rattle.dive_heuristic.specs.Choice.{IsChoice}

-- what is chosen was undecided
abbrev pub ChoicesAreUndecided : Type 0
ChoicesAreUndecided = (book : BookSeen) → IsBook book → (marks : List Fact) (routes : List (List ℕ)) (k a : ℕ)
    → AreRoutesOfFleet book marks routes → IsChoice book marks routes k a → IsUndecided book marks (Fly k a)

-- further facts leave no more undecided
abbrev pub MoreFactsLeaveNoMore : Type 0
MoreFactsLeaveNoMore = (book : BookSeen) (marks more : List Fact) → undecided book (marks ++ more) ≤ undecided book marks
