use Rattle.std.proofs.Common.{length}
use Rattle.branch_tree.specs.SearchTree.{nodes_of}
use Rattle.branch_tree.proofs.laws.search_trees_are_true.Goals as goal

-- it is grown, and what grown trees end with is true
pub returns : goal.returns
returns c = λ table book sound costs for_book limit outcome tree is.
    let grown = c.search_trees_are_grown.ensures table book limit outcome tree is in
    c.grown_trees_are_true.ensures table book sound costs for_book limit outcome (length tree.counted) tree.closing (nodes_of tree) grown
