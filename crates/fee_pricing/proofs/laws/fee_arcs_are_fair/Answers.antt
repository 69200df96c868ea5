use Rattle.fee_pricing.proofs.FairSums.{arcs_fair}
use Rattle.fee_pricing.proofs.laws.fee_arcs_are_fair.Goals as goal

pub returns : goal.returns
returns c = arcs_fair c.routes_cost_at_most_in.ensures
