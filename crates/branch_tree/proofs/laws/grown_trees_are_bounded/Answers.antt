use Rattle.branch_tree.proofs.Outcomes.{reach_claim}
use Rattle.branch_tree.proofs.laws.grown_trees_are_bounded.Goals as goal

pub returns : goal.returns
returns c = λ table book limit outcome count closing nodes is. reach_claim table book limit outcome count closing nodes is
