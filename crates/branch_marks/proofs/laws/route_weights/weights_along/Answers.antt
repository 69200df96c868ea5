use Rattle.branch_marks.proofs.Weights.{weights_along}
use Rattle.branch_marks.proofs.laws.route_weights.weights_along.Goals as goal

pub returns : goal.returns
returns c = weights_along
