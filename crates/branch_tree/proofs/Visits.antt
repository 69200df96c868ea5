-- The node of a visit is put together from the two parts of a step, shutting and the end. The end is shown under the
-- marks that the code has, the node under those of its place with its steps, and shutting says that these are the same.
-- Its target is what is to be undercut when the end is told. Steps and end were told one after the other, so the node
-- was told.
use Rattle.std.proofs.Common.{ℕ, ℤ, inl, inr, List, refl, subst, Option, Some, None}
use Rattle.tail_book.specs.Seen.{BookSeen}
use Rattle.tail_book.specs.TableSeen.{CostTableSeen}
use Rattle.branch_marks.specs.declared.fact.Fact.{Fact}
use Rattle.branch_marks.specs.Following.{IsShut}
use Rattle.branch_marks.specs.LogShown.{LogShown}
use Rattle.branch_marks.specs.TreeLog.{IsLater}
use Rattle.branch_tree.specs.declared.step.Step.{Step}
use Rattle.branch_tree.specs.Counted.{IsEndOf}
use Rattle.node_leaves.specs.Node.{Node, IsShownEnding}
use Rattle.node_leaves.specs.NodeEvents.{node_events, step_events, ending_events}
use Rattle.node_leaves.specs.Place.{Open}
use Rattle.branch_tree.specs.Step.{IsVisit}
use Rattle.node_leaves.specs.Target.{IsTarget, IsBest}
use Rattle.branch_tree.specs.inside.StepParts.{IsShutAndTold, IsEndNoted}
use Rattle.node_leaves.proofs.Cuts.{notes_then}

-- the target of a valid best is one
pub target_of_best : (table : CostTableSeen) (book : BookSeen) (plan : Option (List (List ℕ))) (target : ℕ) → IsBest table book plan target → IsTarget table book target
target_of_best table book None target is = inl is
target_of_best table book (Some plan) target is = inr (plan, is)

module _ (table : CostTableSeen) (book : BookSeen) (here : Open) (after : List Fact) (duals : List ℤ) (plan : Option (List (List ℕ))) (target : ℕ)
    (old between new : LogShown) (later : IsLater between new) (best : IsBest table book plan target) (shut : IsShut book after) where
  pub visited : IsShutAndTold book here.marks after old between → (answer : Step) → IsEndNoted table book after duals target between new answer
      → IsVisit table book here after duals target old new answer
  unfolding node_events
  visited closed answer noted =
      let node : Node = record { target = target; steps = closed.steps; ending = noted.ending } in
      record {
        node = node;
        counted = record {
          shown = record { steps = closed.follow; ending = subst (λ (m : List Fact). IsShownEnding table book m noted.ending) closed.marks noted.shown };
          shut = subst (λ (m : List Fact). IsShut book m) closed.marks shut;
          target = target_of_best table book plan target best;
          ending = subst (λ (m : List Fact). IsEndOf table book m target noted.ending) closed.marks noted.right;
        };
        goal = refl;
        closed = closed.marks;
        answers = noted.answers;
        told = notes_then old between new (step_events closed.steps) (ending_events noted.ending) later closed.told noted.told;
      }
