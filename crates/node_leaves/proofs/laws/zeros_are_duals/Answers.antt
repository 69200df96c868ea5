use Rattle.node_leaves.proofs.LineValues.{zeros_in_box}
use Rattle.node_leaves.proofs.laws.zeros_are_duals.Goals as goal

pub returns : goal.returns
returns c = zeros_in_box
