use Rattle.branch_marks.proofs.Duality.{plan_bound}
use Rattle.branch_marks.proofs.laws.route_weights.low_weights_bound.Goals as goal

pub returns : goal.returns
returns c table book sound marks duals values same low plan legal hold =
    plan_bound c.marked_routes_fit.ensures c.total_by_number.ensures c.total_of_legal_plan.ensures table book sound marks duals values same low plan legal hold
