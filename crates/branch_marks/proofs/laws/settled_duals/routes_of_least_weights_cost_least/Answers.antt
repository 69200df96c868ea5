use Rattle.branch_marks.proofs.LeastPlan.{no_plan_costs_less}
use Rattle.branch_marks.proofs.laws.settled_duals.routes_of_least_weights_cost_least.Goals as goal

pub returns : goal.returns
returns c table book sound marks duals values routes same least of_weights once =
    no_plan_costs_less c.total_by_number.ensures c.total_of_legal_plan.ensures table book marks duals values routes same of_weights once
    c.rounded_up_is_least.ensures c.least_weights_bound.ensures sound least
