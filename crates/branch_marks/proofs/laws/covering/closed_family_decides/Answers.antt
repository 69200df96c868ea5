use Rattle.branch_marks.proofs.FamiliesDecided.{closed_tested}
use Rattle.branch_marks.proofs.laws.covering.closed_family_decides.Goals as goal

pub returns : goal.returns
returns c = closed_tested c.alive_decides.ensures c.usable_decides.ensures c.limits_decide.ensures c.covers_decides.ensures
