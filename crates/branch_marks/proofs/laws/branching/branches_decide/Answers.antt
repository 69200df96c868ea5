use Rattle.branch_marks.proofs.Branches.{first_decides, second_decides}
use Rattle.branch_marks.proofs.laws.branching.branches_decide.Goals as goal

pub returns : goal.returns
returns c book marks pair = (first_decides book marks pair, second_decides book marks pair)
