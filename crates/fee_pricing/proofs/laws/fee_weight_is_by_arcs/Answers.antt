use Rattle.fee_pricing.proofs.ArcSums.{by_arcs}
use Rattle.fee_pricing.proofs.laws.fee_weight_is_by_arcs.Goals as goal

pub returns : goal.returns
returns c = λ table book quotas k duals fees. by_arcs table book quotas k duals fees c.fee_weight_is_along.ensures
