use Rattle.node_leaves.specs.Place.{root}
use Rattle.branch_tree.proofs.Forest.{one_tree}
use Rattle.branch_tree.proofs.laws.shown_nodes_are_trees.Goals as goal

pub returns : goal.returns
returns c = λ table book low nodes grows. one_tree table book low c.following_facts_are_new.ensures (root book) nodes grows
