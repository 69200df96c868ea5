-- Begun trees: what a search leaves that stopped early. In depth-first order its leaves are done up to one, and open behind it.
-- For NodeEvents.antt and Stops.antt.
use Rattle.std.specs.Prelude.{ℤ, ⊤, List, [], ◌∷◌, ◌++◌, Option, Some, None}
use Rattle.tail_book.specs.Seen.{BookSeen}
use Rattle.tail_book.specs.TableSeen.{CostTableSeen}
use Rattle.branch_marks.specs.declared.fact.Fact.{Fact}
use Rattle.branch_marks.specs.Following.{FollowInTurn}
use Rattle.branch_marks.specs.ProofTree.{Cover}
use Rattle.branch_marks.specs.Settled.{AreDuals}
use Rattle.node_leaves.specs.Place.{Open, root}
use Rattle.node_leaves.specs.Node.{Node, IsShownNode, AreFirstCovers}
use Rattle.node_leaves.specs.Growth.{Grows}

-- what may stand at the first open leaf: facts that followed there; or these, and a bound with its duals and first covers
pub data Part : Type 0 where
  Opened : List Fact → Part
  Begun : List Fact → List ℤ → List Cover → Part

-- the nodes before the first open leaf, in depth-first order, and what stands at that leaf
pub record BegunTree : Type 0 where
  pub nodes : List Node
  pub part : Option Part

-- the part is shown, as far as it goes
abbrev pub IsShownPart : CostTableSeen → BookSeen → List Fact → Part → Type 0
IsShownPart table book marks (Opened steps) = FollowInTurn book marks steps
IsShownPart table book marks (Begun steps duals covers) =
    FollowInTurn book marks steps × AreDuals table book duals × AreFirstCovers table book (marks ++ steps) duals covers

-- where there is a part, it stands at the first of the places
abbrev pub StandsFirst : CostTableSeen → BookSeen → List Open → Option Part → Type 0
StandsFirst table book places None = ⊤
StandsFirst table book [] (Some part) = ⊥
StandsFirst table book (here ∷ places) (Some part) = IsShownPart table book here.marks part

-- a begun tree at the places that are owed
pub record IsBegunFrom (table : CostTableSeen) (book : BookSeen) (owed : List Open) (tree : BegunTree) : Type 0 where
  pub left : List Open
  pub grown : Grows (IsShownNode table book) owed tree.nodes left
  pub part : StandsFirst table book left tree.part

-- a begun tree of the book
abbrev pub IsBegunTree : CostTableSeen → BookSeen → BegunTree → Type 0
IsBegunTree table book tree = IsBegunFrom table book (root book ∷ []) tree
