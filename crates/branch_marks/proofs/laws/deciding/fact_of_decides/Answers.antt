use Rattle.branch_marks.proofs.MarksDecided.{fact_of_tested}
use Rattle.branch_marks.proofs.laws.deciding.fact_of_decides.Goals as goal

pub returns : goal.returns
returns c = fact_of_tested
