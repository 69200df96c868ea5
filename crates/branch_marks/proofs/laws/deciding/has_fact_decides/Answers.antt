use Rattle.branch_marks.proofs.FactsDecided.{has_tested}
use Rattle.branch_marks.proofs.laws.deciding.has_fact_decides.Goals as goal

pub returns : goal.returns
returns c = has_tested
