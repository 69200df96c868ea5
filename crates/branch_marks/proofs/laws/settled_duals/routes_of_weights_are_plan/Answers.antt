use Rattle.branch_marks.proofs.LeastPlan.{plan_of_routes, cost_of_plan}
use Rattle.branch_marks.proofs.laws.settled_duals.routes_of_weights_are_plan.Goals as goal

pub returns : goal.returns
returns c table book marks duals values routes same of_weights once = (
  plan_of_routes c.total_by_number.ensures c.total_of_legal_plan.ensures table book marks duals values routes same of_weights once,
  cost_of_plan c.total_by_number.ensures c.total_of_legal_plan.ensures table book marks duals values routes same of_weights once,
)
