use Rattle.branch_marks.proofs.MarksDecided.{alive_tested}
use Rattle.branch_marks.proofs.laws.deciding.alive_decides.Goals as goal

pub returns : goal.returns
returns c = alive_tested c.allowed_decides.ensures
