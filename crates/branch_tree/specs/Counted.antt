-- What a search asks of the nodes that it counts, beyond that they are shown: what a bound reaches, and when a split is
-- due. For GrownTree.antt, SearchTree.antt and others.
use Rattle.std.specs.Prelude.{ℕ, ℤ, ⊤, List}
use Rattle.tail_book.specs.Seen.{BookSeen}
use Rattle.tail_book.specs.TableSeen.{CostTableSeen}
use Rattle.branch_marks.specs.declared.fact.Fact.{Fact}
use Rattle.branch_marks.specs.declared.fact.Pair.{Pair}
use Rattle.branch_marks.specs.Bound.{lagrangian, bound_of, AreLeastWeights, Passes}
use Rattle.branch_marks.specs.Following.{IsShut}
use Rattle.branch_marks.specs.Settled.{IsSettled, AreRoutesOfWeights}
use Rattle.node_leaves.specs.Choice.{IsChosenPair}
use Rattle.dive_heuristic.specs.declared.answer.Dive.{Dive}
use Rattle.dive_heuristic.specs.Dive.{IsDiveOf, IsFittingDive}
use Rattle.node_leaves.specs.Place.{Open}
use Rattle.node_leaves.specs.Node.{Ending, Node, closed_marks, IsShownNode, Hole, Stuck, Bounded, Split}
use Rattle.node_leaves.specs.Priced.{HasLeastValues}
use Rattle.node_leaves.specs.Target.{IsTarget, bound_under, HasUsed}

-- a node is split only under settled duals, with routes out of the pool counted too, and where their bound still lies below
-- the target; on the pair that routes of least weight choose, and after a dive from its marks under its duals, whose plan is
-- legal, has the cost that is told, and counts
pub record IsSplitOf (table : CostTableSeen) (book : BookSeen) (marks : List Fact) (target : ℕ) (pair : Pair) (duals : List ℤ)
    (routes : List (List ℕ)) (dive : Dive) : Type 0 where
  pub settled : IsSettled table book marks duals
  pub values : List ℤ
  pub least : AreLeastWeights table book marks duals values
  pub attained : AreRoutesOfWeights table book marks duals values routes
  pub below : ¬ Passes (bound_of (lagrangian duals values)) target
  pub chosen : IsChosenPair book marks routes pair
  pub dived : IsDiveOf table book marks duals dive
  pub planned : IsFittingDive table book marks dive
  pub used : HasUsed target dive

-- what is asked of an end beyond that it is shown: a bound reaches the target
abbrev pub IsEndOf : CostTableSeen → BookSeen → List Fact → ℕ → Ending → Type 0
IsEndOf table book marks target (Hole a) = ⊤
IsEndOf table book marks target (Stuck k family) = ⊤
IsEndOf table book marks target (Bounded duals covers) = HasLeastValues table book marks duals covers × Passes (bound_under duals covers) target
IsEndOf table book marks target (Split pair duals routes dive) = IsSplitOf table book marks target pair duals routes dive

-- a counted node: nothing more follows from its marks, and its end is right for the target with which the node was left
pub record IsCounted (table : CostTableSeen) (book : BookSeen) (here : Open) (node : Node) : Type 0 where
  pub shown : IsShownNode table book here node
  pub shut : IsShut book (closed_marks here node)
  pub target : IsTarget table book node.target
  pub ending : IsEndOf table book (closed_marks here node) node.target node.ending
