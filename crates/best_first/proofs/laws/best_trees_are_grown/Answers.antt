use Rattle.best_first.proofs.TreesGrown.{tree_grown}
use Rattle.best_first.proofs.laws.best_trees_are_grown.Goals as goal

pub returns : goal.returns
returns c = λ table book limit outcome tree is. tree_grown table book limit outcome tree is
