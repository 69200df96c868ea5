use Rattle.std.proofs.Common.{length}
use Rattle.branch_tree.specs.SearchTree.{nodes_of}
use Rattle.branch_tree.proofs.laws.search_trees_are_bounded.Goals as goal

-- it is grown, and grown trees are bounded
pub returns : goal.returns
returns c = λ table book limit outcome tree is.
    let grown = c.search_trees_are_grown.ensures table book limit outcome tree is in
    c.grown_trees_are_bounded.ensures table book limit outcome (length tree.counted) tree.closing (nodes_of tree) grown
