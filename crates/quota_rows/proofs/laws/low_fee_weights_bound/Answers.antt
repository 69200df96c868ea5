use Rattle.quota_rows.proofs.FeeDuality.{kept_plan_bound}
use Rattle.quota_rows.proofs.laws.low_fee_weights_bound.Goals as goal

pub returns : goal.returns
returns c table book sound quotas marks duals fees values same least low plan kept hold =
    kept_plan_bound c.marked_routes_fit.ensures c.total_by_number.ensures c.total_of_legal_plan.ensures table book sound quotas marks duals fees values same least low plan kept hold
