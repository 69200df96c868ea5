use Rattle.branch_marks.proofs.Branches.{some_branch, not_both_branches}
use Rattle.branch_marks.proofs.laws.branching.one_branch_holds.Goals as goal

pub returns : goal.returns
returns c pair plan = (some_branch pair plan, not_both_branches pair plan)
