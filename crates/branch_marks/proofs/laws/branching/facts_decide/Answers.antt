use Rattle.branch_marks.proofs.Branches.{undecided_before}
use Rattle.branch_marks.proofs.laws.branching.facts_decide.Goals as goal

pub returns : goal.returns
returns c = undecided_before
