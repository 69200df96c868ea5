use Rattle.branch_marks.proofs.FamiliesDecided.{covers_tested}
use Rattle.branch_marks.proofs.laws.covering.covers_decides.Goals as goal

pub returns : goal.returns
returns c = covers_tested c.each_at_most_decides.ensures
