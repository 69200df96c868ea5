use Rattle.branch_marks.proofs.Fewer.{undecided_tested}
use Rattle.branch_marks.proofs.laws.branching.undecided_decides.Goals as goal

pub returns : goal.returns
returns c = undecided_tested c.alive_decides.ensures c.usable_decides.ensures c.has_fact_decides.ensures
