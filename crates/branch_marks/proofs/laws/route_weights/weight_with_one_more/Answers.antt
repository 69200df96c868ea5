use Rattle.branch_marks.proofs.Weights.{weight_one_more}
use Rattle.branch_marks.proofs.laws.route_weights.weight_with_one_more.Goals as goal

pub returns : goal.returns
returns c = weight_one_more c.cost_with_one_more_in.ensures
