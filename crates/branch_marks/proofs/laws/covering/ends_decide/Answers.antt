use Rattle.branch_marks.proofs.FamiliesDecided.{ends_tested}
use Rattle.branch_marks.proofs.laws.covering.ends_decide.Goals as goal

pub returns : goal.returns
returns c = ends_tested c.may_end_decides.ensures
