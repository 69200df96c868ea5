use Rattle.plan_repair.proofs.RungLemmas.{highest_fewest}
use Rattle.plan_repair.proofs.laws.highest_is_fewest.Goals as goal

pub returns : goal.returns
returns c = highest_fewest c.legal_plans_cost_at_most.ensures
