-- The end of a place whose node is only priced: an aircraft that is stuck, or a bound of least weights. For Leaf.antt.
use Rattle.std.specs.Prelude.{◌≡◌, ⊤, ℤ, List, map}
use Rattle.tail_book.specs.Seen.{BookSeen}
use Rattle.tail_book.specs.TableSeen.{CostTableSeen}
use Rattle.branch_marks.specs.declared.fact.Fact.{Fact}
use Rattle.branch_marks.specs.Bound.{AreLeastWeights}
use Rattle.branch_marks.specs.ProofTree.{Cover}
use Rattle.node_leaves.specs.Place.{Open}
use Rattle.node_leaves.specs.Node.{Ending, Hole, Stuck, Bounded, Split}

-- the values of the covers are the least weights
abbrev pub HasLeastValues : CostTableSeen → BookSeen → List Fact → List ℤ → List Cover → Type 0
HasLeastValues table book marks duals covers = AreLeastWeights table book marks duals (map (λ cover. cover.value) covers)

-- the end of a node that was only priced, under the duals of its parent
abbrev pub IsPriced : CostTableSeen → BookSeen → Open → Ending → Type 0
IsPriced table book here (Hole a) = ⊥
IsPriced table book here (Stuck k family) = ⊤
IsPriced table book here (Bounded duals covers) = (duals ≡ here.duals) × HasLeastValues table book here.marks duals covers
IsPriced table book here (Split pair duals routes dive) = ⊥
