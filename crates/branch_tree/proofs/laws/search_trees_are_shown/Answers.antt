use Rattle.std.proofs.Common.{[], ◌∷◌}
use Rattle.node_leaves.specs.Place.{root}
use Rattle.node_leaves.specs.Node.{IsShownNode}
use Rattle.branch_tree.specs.Counted.{IsCounted}
use Rattle.branch_tree.specs.Closing.{IsClosing}
use Rattle.node_leaves.proofs.Runs.{grows_then, grows_weaker}
use Rattle.branch_tree.proofs.laws.search_trees_are_shown.Goals as goal

-- the counted nodes lead to the places that the closing ones take
pub returns : goal.returns
returns c = λ table book limit outcome tree is.
    let shown = IsShownNode table book in
    let counted = grows_weaker (IsCounted table book) shown (λ here node h. h.shown) (root book ∷ []) tree.counted is.left is.grown in
    let closing = grows_weaker (IsClosing table book is.final) shown (λ here node h. h.shown) is.left tree.closing [] is.closed in
    grows_then shown (root book ∷ []) tree.counted is.left tree.closing [] counted closing
