use Rattle.branch_marks.proofs.Pool.{least_in_is_least}
use Rattle.branch_marks.proofs.laws.settled_duals.least_in_is_least.Goals as goal

pub returns : goal.returns
returns c = least_in_is_least
