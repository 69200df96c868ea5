use Rattle.node_leaves.proofs.LineValues.{duals_spelled}
use Rattle.node_leaves.proofs.laws.duals_are_spelled.Goals as goal

pub returns : goal.returns
returns c = duals_spelled
