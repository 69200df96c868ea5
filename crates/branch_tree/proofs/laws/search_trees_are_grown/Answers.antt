use Rattle.branch_tree.proofs.Outcomes.{search_grown}
use Rattle.branch_tree.proofs.laws.search_trees_are_grown.Goals as goal

pub returns : goal.returns
returns c = λ table book limit outcome tree is. search_grown table book limit outcome tree is
