use Rattle.branch_marks.specs.Branches.{first_branch, second_branch}
use Rattle.branch_marks.proofs.Fewer.{fewer}
use Rattle.branch_marks.proofs.laws.branching.branches_leave_fewer.Goals as goal

pub returns : goal.returns
returns c book marks pair u =
    let (first, second) = c.branches_decide.ensures book marks pair in
    let of_book = c.undecided_pairs_are_of_book.ensures book marks pair u in (
      fewer c.facts_decide.ensures c.undecided_decides.ensures book marks (first_branch pair) pair of_book u first,
      fewer c.facts_decide.ensures c.undecided_decides.ensures book marks (second_branch pair) pair of_book u second,
    )
