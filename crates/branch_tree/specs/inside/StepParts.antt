-- Inside a step on a node: its tools, its pool, the end that is found, and what was told when it stopped.
-- For src/node.rt, src/step_start.rt and others.
use Rattle.std.specs.Prelude.{◌≡◌, ℕ, ℤ, ◌<◌, ⊤, List, ◌++◌}
use Rattle.tail_book.specs.Seen.{BookSeen}
use Rattle.tail_book.specs.TableSeen.{CostTableSeen}
use Rattle.tail_book.specs.Lookup.{aircraft}
use Rattle.connection_net.specs.Seen.{NetSeen}
use Rattle.branch_marks.specs.declared.fact.Fact.{Fact}
use Rattle.branch_marks.specs.Bound.{AreLeastWeights, lagrangian, bound_of, Passes}
use Rattle.branch_marks.specs.DeadEnds.{IsStuck}
use Rattle.branch_marks.specs.Following.{FollowInTurn}
use Rattle.branch_marks.specs.LogShown.{LogShown}
use Rattle.branch_marks.specs.MarksSeen.{MarksSeen}
use Rattle.branch_marks.specs.TreeLog.{Notes, NotesFront}
use Rattle.dive_heuristic.specs.Divers.{IsDiverFor}
use Rattle.branch_tree.specs.declared.step.NodeEnd.{NodeEnd}
use Rattle.branch_tree.specs.declared.step.NodeEnd.TheVariants as end
use Rattle.branch_tree.specs.declared.step.Step.{Step}
use Rattle.branch_tree.specs.declared.tools.NodeTools.{NodeTools}
use Rattle.branch_tree.specs.Counted.{IsEndOf}
use Rattle.node_leaves.specs.Node.{Ending, IsShownEnding}
use Rattle.node_leaves.specs.NodeEvents.{step_events, ending_events}
use Rattle.branch_tree.specs.Step.{IsTrueSplit, ReachesBoundOf, AnswersNode}
use Rattle.node_leaves.specs.inside.Leaf.{IsReady}

-- the tools are of the book, and right for these marks
pub record AreToolsFor (table : CostTableSeen) (book : BookSeen) (net : NetSeen) (marks : MarksSeen) (tools : NodeTools) : Type 0 where
  pub prices : IsReady table book net marks tools.prices
  pub diver : IsDiverFor book table marks.facts tools.diver

-- the end is right under these marks for the duals and the target
abbrev pub IsEndFound : CostTableSeen → BookSeen → List Fact → List ℤ → ℕ → NodeEnd → Type 0
IsEndFound table book marks duals target (end.Stuck k) = (k < aircraft book) × IsStuck book marks k
IsEndFound table book marks duals target (end.Bounded values) =
    AreLeastWeights table book marks duals values.items × Passes (bound_of (lagrangian duals values.items)) target
IsEndFound table book marks duals target (end.Split pair bound routes dive) = IsTrueSplit table book marks duals target pair bound routes.items dive

-- the end is no split
abbrev pub IsLeaf : NodeEnd → Type 0
IsLeaf (end.Stuck k) = ⊤
IsLeaf (end.Bounded values) = ⊤
IsLeaf (end.Split pair bound routes dive) = ⊥

-- where the end is a split, its bound reaches the Lagrangian bound that these duals give under the marks
abbrev pub EndRisesFrom : CostTableSeen → BookSeen → List Fact → List ℤ → NodeEnd → Type 0
EndRisesFrom table book marks duals (end.Stuck k) = ⊤
EndRisesFrom table book marks duals (end.Bounded values) = ⊤
EndRisesFrom table book marks duals (end.Split pair bound routes dive) = ReachesBoundOf table book marks duals bound

-- the marks grew by facts that follow in their turn, which were told
pub record IsShutAndTold (book : BookSeen) (before after : List Fact) (old new : LogShown) : Type 0 where
  pub steps : List Fact
  pub marks : after ≡ before ++ steps
  pub follow : FollowInTurn book before steps
  pub told : Notes old new (step_events steps)

-- of facts that follow in their turn from the marks a front was told
pub record IsCutAtSteps (book : BookSeen) (before : List Fact) (old new : LogShown) : Type 0 where
  pub steps : List Fact
  pub follow : FollowInTurn book before steps
  pub front : NotesFront old new (step_events steps)

-- the end was told with what shows it
pub record IsEndNoted (table : CostTableSeen) (book : BookSeen) (marks : List Fact) (duals : List ℤ) (target : ℕ) (old new : LogShown)
    (answer : Step) : Type 0 where
  pub ending : Ending
  pub shown : IsShownEnding table book marks ending
  pub right : IsEndOf table book marks target ending
  pub answers : AnswersNode duals ending answer
  pub told : Notes old new (ending_events ending)
