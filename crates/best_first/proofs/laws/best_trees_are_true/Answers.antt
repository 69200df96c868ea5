use Rattle.best_first.specs.BestTree.{closing_of, count_in}
use Rattle.best_first.specs.BestTree.{nodes_of}
use Rattle.best_first.proofs.laws.best_trees_are_true.Goals as goal

-- it is grown, and what grown trees end with is true
pub returns : goal.returns
returns c = λ table book sound costs for_book limit outcome tree is.
    let grown = c.best_trees_are_grown.ensures table book limit outcome tree is in
    c.grown_trees_are_true.ensures table book sound costs for_book limit outcome (count_in tree) (closing_of tree) (nodes_of tree) grown
