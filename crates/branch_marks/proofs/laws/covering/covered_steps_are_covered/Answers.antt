use Rattle.branch_marks.proofs.Dominance.{steps_covered}
use Rattle.branch_marks.proofs.laws.covering.covered_steps_are_covered.Goals as goal

pub returns : goal.returns
returns c = steps_covered c.steps_keep_order.ensures c.lower_stays_within.ensures
