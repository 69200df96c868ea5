-- A node of a search tree: the facts that followed there, and how it ended.
-- For branch_tree/src/visit.rt and branch_tree/src/second_pass.rt.
use Rattle.std.specs.Prelude.{ℕ, ℤ, ◌≤◌, ◌<◌, ⊤, List, [], ◌∷◌, ◌++◌, length}
use Rattle.tail_book.specs.Seen.{BookSeen}
use Rattle.tail_book.specs.TableSeen.{CostTableSeen}
use Rattle.tail_book.specs.Lookup.{aircraft}
use Rattle.branch_marks.specs.declared.fact.Fact.{Fact}
use Rattle.branch_marks.specs.declared.fact.Pair.{Pair}
use Rattle.branch_marks.specs.Branches.{first_branch, second_branch, IsUndecided}
use Rattle.branch_marks.specs.DeadEnds.{IsHole}
use Rattle.branch_marks.specs.Following.{FollowInTurn}
use Rattle.branch_marks.specs.Labels.{Label}
use Rattle.branch_marks.specs.ProofTree.{Cover, cover_of, leaf_bound, IsShownCover, IsShownStuck, IsShownBound}
use Rattle.dive_heuristic.specs.declared.answer.Dive.{Dive}
use Rattle.node_leaves.specs.Place.{Open}

-- how a node ends: with a leaf, as those of a proof tree; or with a split on a pair, under duals, with a least route for each
-- aircraft under them and a dive
pub data Ending : Type 0 where
  Hole : ℕ → Ending
  Stuck : ℕ → List Label → Ending
  Bounded : List ℤ → List Cover → Ending
  Split : Pair → List ℤ → List (List ℕ) → Dive → Ending

-- a node: the cost to undercut, in cost units, as the node left it; the facts that followed there; and its end
pub record Node : Type 0 where
  pub target : ℕ
  pub steps : List Fact
  pub ending : Ending

-- the marks with which a node at this place ends
abbrev pub closed_marks : Open → Node → List Fact
closed_marks here node = here.marks ++ node.steps

-- the places that an end owes: a split its first branch and then its second, both under its duals
abbrev pub branches : List Fact → Ending → List Open
branches marks (Split pair duals routes dive) =
    record { marks = marks ++ first_branch pair ∷ []; duals = duals }
    ∷ record { marks = marks ++ second_branch pair ∷ []; duals = duals } ∷ []
branches marks (Hole a) = []
branches marks (Stuck k family) = []
branches marks (Bounded duals covers) = []

-- the end is shown under these marks, as that of a proof tree
abbrev pub IsShownEnding : CostTableSeen → BookSeen → List Fact → Ending → Type 0
IsShownEnding table book marks (Hole a) = IsHole book marks a
IsShownEnding table book marks (Stuck k family) = IsShownStuck table book marks k family
IsShownEnding table book marks (Bounded duals covers) = IsShownBound table book marks duals covers
IsShownEnding table book marks (Split pair duals routes dive) = IsUndecided book marks pair

-- a node at this place is shown, whoever made it: each of its steps follows, and its end is shown
pub record IsShownNode (table : CostTableSeen) (book : BookSeen) (here : Open) (node : Node) : Type 0 where
  pub steps : FollowInTurn book here.marks node.steps
  pub ending : IsShownEnding table book (closed_marks here node) node.ending

-- where the end is a bound, it is at least this, in cost units
abbrev pub IsBoundedBy : ℕ → Ending → Type 0
IsBoundedBy low (Bounded duals covers) = low ≤ leaf_bound duals covers
IsBoundedBy low (Hole a) = ⊤
IsBoundedBy low (Stuck k family) = ⊤
IsBoundedBy low (Split pair duals routes dive) = ⊤

-- a shown node whose bound reaches this
pub record Bounds (table : CostTableSeen) (book : BookSeen) (low : ℕ) (here : Open) (node : Node) : Type 0 where
  pub shown : IsShownNode table book here node
  pub bounded : IsBoundedBy low node.ending

-- the covers of the first aircraft, as many as there are, are shown
pub record AreFirstCovers (table : CostTableSeen) (book : BookSeen) (marks : List Fact) (duals : List ℤ) (covers : List Cover) : Type 0 where
  pub few : length covers ≤ aircraft book
  pub each : (k : ℕ) → k < length covers → IsShownCover table book marks k duals (cover_of covers k)
