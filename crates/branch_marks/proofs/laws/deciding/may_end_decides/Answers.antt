use Rattle.branch_marks.proofs.MarksDecided.{may_end_tested}
use Rattle.branch_marks.proofs.laws.deciding.may_end_decides.Goals as goal

pub returns : goal.returns
returns c = may_end_tested
