use Rattle.branch_marks.proofs.FamiliesDecided.{no_end_tested}
use Rattle.branch_marks.proofs.laws.covering.no_end_decides.Goals as goal

pub returns : goal.returns
returns c = no_end_tested c.may_end_decides.ensures
