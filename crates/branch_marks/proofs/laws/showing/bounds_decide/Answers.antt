use Rattle.branch_marks.proofs.TreesDecided.{bounds_tested}
use Rattle.branch_marks.proofs.laws.showing.bounds_decide.Goals as goal

pub returns : goal.returns
returns c = bounds_tested
