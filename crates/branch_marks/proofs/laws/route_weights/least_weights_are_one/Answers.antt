use Rattle.branch_marks.proofs.Weights.{least_is_one}
use Rattle.branch_marks.proofs.laws.route_weights.least_weights_are_one.Goals as goal

pub returns : goal.returns
returns c = least_is_one
