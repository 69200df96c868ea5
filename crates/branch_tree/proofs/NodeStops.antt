-- A stop at a node leaves a front of a begun tree at its place. In the steps, the tree has no node, and these steps are
-- its open part. At the leaf the steps were told before, and three things may follow. Nothing: the part is the steps. A
-- bound that was begun: the part has its duals and first covers too. An end that is shown whole: the tree has one node,
-- whose target no event tells, so that any will do.
use Rattle.std.proofs.Common.{◌≡◌, ◌∙◌, List, [], ◌∷◌, ◌++◌, Some, None, refl, sym, subst, append-nil}
use Rattle.tail_book.specs.Seen.{BookSeen}
use Rattle.tail_book.specs.TableSeen.{CostTableSeen}
use Rattle.branch_marks.specs.declared.event.Event.{Event}
use Rattle.branch_marks.specs.declared.fact.Fact.{Fact}
use Rattle.branch_marks.specs.Following.{FollowInTurn}
use Rattle.branch_marks.specs.LogShown.{LogShown}
use Rattle.branch_marks.specs.TreeLog.{Notes, NotesFront, IsLater}
use Rattle.node_leaves.specs.Place.{Open}
use Rattle.node_leaves.specs.Node.{Ending, Node, branches, closed_marks, IsShownNode, IsShownEnding}
use Rattle.node_leaves.specs.Begun.{Opened, Begun}
use Rattle.node_leaves.specs.NodeEvents.{events_of, node_events, step_events, ending_events}
use Rattle.node_leaves.specs.Stops.{StopsIn}
use Rattle.node_leaves.specs.inside.Leaf.{Leaf, IsShownLeaf, leaf_events, IsCutAtLeaf}
use Rattle.node_leaves.specs.inside.Leaf as part
use Rattle.branch_tree.specs.inside.StepParts.{IsCutAtSteps, IsShutAndTold}
use Rattle.node_leaves.proofs.Cuts.{front_then, front_whole}
use Rattle.node_leaves.proofs.LeafStops.{stops_in}
use Rattle.node_leaves.proofs.Runs.{grows_none, grows_one, events_one}

module _ (table : CostTableSeen) (book : BookSeen) (here : Open) (old : LogShown) where
  opened_stops : (new : LogShown) (steps : List Fact) → FollowInTurn book here.marks steps → NotesFront old new (step_events steps)
      → StopsIn old new table book (here ∷ [])
  unfolding events_of
  opened_stops new steps follow front =
      stops_in table book here old new (record { nodes = []; part = Some (Opened steps) }) (step_events steps)
      (record { left = here ∷ []; grown = grows_none (IsShownNode table book) (here ∷ []); part = follow }) refl front

  -- in the steps
  pub steps_stop : (new : LogShown) → IsCutAtSteps book here.marks old new → StopsIn old new table book (here ∷ [])
  steps_stop new cut = opened_stops new cut.steps cut.follow cut.front

  -- behind them, with nothing told since
  pub shut_stops : (new : LogShown) (after : List Fact) → IsShutAndTold book here.marks after old new → StopsIn old new table book (here ∷ [])
  shut_stops new after shut = opened_stops new shut.steps shut.follow (front_whole old new (step_events shut.steps) shut.told)

  module _ (between new : LogShown) (later : IsLater between new) (steps : List Fact) (follow : FollowInTurn book here.marks steps)
      (told : Notes old between (step_events steps)) where
    with_steps : Ending → Node
    with_steps ending = record { target = 0; steps = steps; ending = ending }

    whole_events : (ending : Ending) → step_events steps ++ ending_events ending ≡ events_of (with_steps ending ∷ []) ++ []
    unfolding with_steps node_events
    whole_events ending = sym (append-nil (events_of (with_steps ending ∷ [])) ∙ events_one (with_steps ending))

    steps_shown : (ending : Ending) → IsShownEnding table book (here.marks ++ steps) ending → IsShownNode table book here (with_steps ending)
    unfolding with_steps
    steps_shown ending shown = record { steps = follow; ending = shown }

    all_front : (due : List Event) → NotesFront between new due → NotesFront old new (step_events steps ++ due)
    all_front due front = front_then old between new (step_events steps) due later told front

    by_part : (leaf : Leaf) → IsShownLeaf table book (here.marks ++ steps) leaf → NotesFront between new (leaf_events leaf)
        → StopsIn old new table book (here ∷ [])
    unfolding events_of
    by_part part.Untold shown front =
        opened_stops new steps follow (subst (λ (es : List Event). NotesFront old new es) (append-nil (step_events steps)) (all_front [] front))
    by_part (part.Whole ending) shown front =
        stops_in table book here old new (record { nodes = with_steps ending ∷ []; part = None }) (step_events steps ++ ending_events ending)
        (record {
          left = branches (closed_marks here (with_steps ending)) (with_steps ending).ending ++ [];
          grown = grows_one (IsShownNode table book) here [] (with_steps ending) (steps_shown ending shown);
          part = tt;
        })
        (whole_events ending) (all_front (ending_events ending) front)
    by_part (part.Begun duals covers) shown front =
        stops_in table book here old new (record { nodes = []; part = Some (Begun steps duals covers) }) (step_events steps ++ leaf_events (part.Begun duals covers))
        (record {
          left = here ∷ [];
          grown = grows_none (IsShownNode table book) (here ∷ []);
          part = (follow, shown.0, shown.1);
        })
        refl (all_front (leaf_events (part.Begun duals covers)) front)

  -- at the leaf
  pub end_stops : (between new : LogShown) (after : List Fact) → IsLater between new → IsShutAndTold book here.marks after old between
      → IsCutAtLeaf table book after between new → StopsIn old new table book (here ∷ [])
  end_stops between new after later shut cut =
      by_part between new later shut.steps shut.follow shut.told cut.part
      (subst (λ (m : List Fact). IsShownLeaf table book m cut.part) shut.marks cut.shown) cut.front
