-- What a step on a node answers: what is true of each answer, and the node that the step visits.
use Rattle.std.specs.Prelude.{◌≡◌, ℕ, ℤ, pos, ◌<◌, ◌≤ℤ◌, ⊤, List}
use Rattle.tail_book.specs.Seen.{BookSeen}
use Rattle.tail_book.specs.TableSeen.{CostTableSeen}
use Rattle.tail_book.specs.Lookup.{aircraft}
use Rattle.branch_marks.specs.declared.fact.Fact.{Fact}
use Rattle.branch_marks.specs.declared.fact.Pair.{Pair}
use Rattle.branch_marks.specs.Bound.{bound_of, Passes}
use Rattle.branch_marks.specs.Branches.{IsUndecided}
use Rattle.branch_marks.specs.DeadEnds.{IsHole, IsStuck}
use Rattle.branch_marks.specs.LogShown.{LogShown}
use Rattle.branch_marks.specs.Settled.{IsSum}
use Rattle.branch_marks.specs.TreeLog.{Notes}
use Rattle.dive_heuristic.specs.declared.answer.Dive.{Dive}
use Rattle.branch_tree.specs.declared.step.Step.{Step}
use Rattle.branch_tree.specs.declared.step.Step.TheVariants as step
use Rattle.branch_tree.specs.Counted.{IsCounted, IsSplitOf}
use Rattle.node_leaves.specs.Node.{Ending, Hole, Stuck, Bounded, Split, Node, closed_marks}
use Rattle.node_leaves.specs.NodeEvents.{node_events}
use Rattle.node_leaves.specs.Place.{Open}

-- this is the Lagrangian bound of the duals, in thousandths of a cost unit: the larger of their sum and 0
abbrev pub IsLagrangianBound : CostTableSeen → BookSeen → List Fact → List ℤ → ℤ → Type 0
IsLagrangianBound table book marks duals bound = (sum : ℤ) × IsSum table book marks duals sum × (bound ≡ pos (bound_of sum))

-- a bound is at least the Lagrangian bound of these duals under these marks, which they have unless an aircraft is stuck
abbrev pub ReachesBoundOf : CostTableSeen → BookSeen → List Fact → List ℤ → ℤ → Type 0
ReachesBoundOf table book marks duals bound = (low : ℤ) → IsLagrangianBound table book marks duals low → low ≤ℤ bound

-- a split that may be answered: the bound is that of its duals and leaves room below the target, and its pair is undecided
pub record IsTrueSplit (table : CostTableSeen) (book : BookSeen) (marks : List Fact) (duals : List ℤ) (target : ℕ) (pair : Pair) (bound : ℤ)
    (routes : List (List ℕ)) (dive : Dive) : Type 0 where
  pub split : IsSplitOf table book marks target pair duals routes dive
  pub bounds : IsLagrangianBound table book marks duals bound
  pub below : ¬ Passes (bound_of bound) target
  pub undecided : IsUndecided book marks pair

-- what is true of the marks, the duals and the target with which a step ends
abbrev pub IsTrueStep : CostTableSeen → BookSeen → List Fact → List ℤ → ℕ → Step → Type 0
IsTrueStep table book marks duals target (step.Hole a) = IsHole book marks a
IsTrueStep table book marks duals target (step.Stuck k) = (k < aircraft book) × IsStuck book marks k
IsTrueStep table book marks duals target (step.Bounded bound) = IsLagrangianBound table book marks duals bound × Passes (bound_of bound) target
IsTrueStep table book marks duals target (step.Split pair bound routes dive) =
    IsTrueSplit table book marks duals target pair bound routes.items dive

-- where the step splits the node, its bound is at least that of these duals under these marks; where both are those of the node's
-- place, bounds never fall on the way down
abbrev pub RisesFrom : CostTableSeen → BookSeen → List Fact → List ℤ → Step → Type 0
RisesFrom table book marks duals (step.Hole a) = ⊤
RisesFrom table book marks duals (step.Stuck k) = ⊤
RisesFrom table book marks duals (step.Bounded bound) = ⊤
RisesFrom table book marks duals (step.Split pair bound routes dive) = ReachesBoundOf table book marks duals bound

-- the answer names the end of the node; the duals of a bound and of a split are those that are returned
abbrev pub AnswersNode : List ℤ → Ending → Step → Type 0
AnswersNode duals (Hole a) (step.Hole b) = b ≡ a
AnswersNode duals (Stuck k family) (step.Stuck j) = j ≡ k
AnswersNode duals (Bounded under covers) (step.Bounded bound) = under ≡ duals
AnswersNode duals (Split pair under routes dive) (step.Split on bound flown dived) =
    (on ≡ pair) × (under ≡ duals) × (flown.items ≡ routes) × (dived ≡ dive)
AnswersNode duals ending answer = ⊥

-- the node that a step visits at a place: it is counted, it ends with these marks and this target, the answer names its end, and
-- its events are told
pub record IsVisit (table : CostTableSeen) (book : BookSeen) (here : Open) (marks : List Fact) (duals : List ℤ) (target : ℕ) (old new : LogShown)
    (answer : Step) : Type 0 where
  pub node : Node
  pub counted : IsCounted table book here node
  pub goal : node.target ≡ target
  pub closed : marks ≡ closed_marks here node
  pub answers : AnswersNode duals node.ending answer
  pub told : Notes old new (node_events node)
