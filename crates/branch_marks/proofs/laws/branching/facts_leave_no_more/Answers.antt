use Rattle.branch_marks.proofs.Fewer.{no_more}
use Rattle.branch_marks.proofs.laws.branching.facts_leave_no_more.Goals as goal

pub returns : goal.returns
returns c = no_more c.facts_decide.ensures c.undecided_decides.ensures
