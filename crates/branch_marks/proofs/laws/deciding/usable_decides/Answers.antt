use Rattle.branch_marks.proofs.MarksDecided.{usable_tested}
use Rattle.branch_marks.proofs.laws.deciding.usable_decides.Goals as goal

pub returns : goal.returns
returns c = usable_tested c.link_decides.ensures c.alive_decides.ensures
