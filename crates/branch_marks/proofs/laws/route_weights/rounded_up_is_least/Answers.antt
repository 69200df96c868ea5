use Rattle.branch_marks.proofs.Duality.{rounded_up_forth, rounded_up_back}
use Rattle.branch_marks.proofs.laws.route_weights.rounded_up_is_least.Goals as goal

pub returns : goal.returns
returns c z units = (rounded_up_forth z units, rounded_up_back z units)
