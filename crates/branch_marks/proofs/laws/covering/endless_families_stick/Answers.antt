use Rattle.branch_marks.proofs.Dominance.{endless_sticks}
use Rattle.branch_marks.proofs.laws.covering.endless_families_stick.Goals as goal

pub returns : goal.returns
returns c = endless_sticks c.closed_families_bound.ensures
