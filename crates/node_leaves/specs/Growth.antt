-- Trees as lists of their nodes in depth-first order: a tree is what leads from the root to no place that is owed.
-- For Begun.antt.
use Rattle.std.specs.Prelude.{◌≡◌, List, [], ◌∷◌, ◌++◌}
use Rattle.node_leaves.specs.Place.{Open}
use Rattle.node_leaves.specs.Node.{Node, closed_marks, branches}

-- from the places that are owed, in order, the nodes lead to those that are left: each node stands at the first place that is
-- owed, of which this holds, and puts its branches in front of the others
unfoldable pub Grows : (Open → Node → Type 0) → List Open → List Node → List Open → Type 0
Grows Stands owed [] left = owed ≡ left
Grows Stands [] (node ∷ nodes) left = ⊥
Grows Stands (here ∷ owed) (node ∷ nodes) left =
    Stands here node × Grows Stands (branches (closed_marks here node) node.ending ++ owed) nodes left
