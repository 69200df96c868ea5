use Rattle.quota_demands.proofs.Bounding.{plan_bound}
use Rattle.quota_demands.proofs.laws.potentials_bound.Goals as goal

pub returns : goal.returns
returns c book quota coming leaving carried are plan legal =
    plan_bound book quota coming leaving carried are c.total_by_number.ensures c.total_of_legal_plan.ensures plan legal
