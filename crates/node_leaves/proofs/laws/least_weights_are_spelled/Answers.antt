use Rattle.node_leaves.proofs.LineValues.{weight_spelled}
use Rattle.node_leaves.proofs.laws.least_weights_are_spelled.Goals as goal

pub returns : goal.returns
returns c = weight_spelled c.legal_routes_rise.ensures c.reduced_costs_are_small.ensures
