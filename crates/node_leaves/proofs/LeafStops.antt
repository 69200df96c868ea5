-- A stop at a leaf of a node without steps: what was told is a front of a begun tree, with the leaf as a whole, or begun, at its
-- first place.
use Rattle.std.proofs.Common.{◌≡◌, ◌∙◌, List, [], ◌∷◌, ◌++◌, Some, None, refl, sym, subst, append-nil}
use Rattle.tail_book.specs.Seen.{BookSeen}
use Rattle.tail_book.specs.TableSeen.{CostTableSeen}
use Rattle.branch_marks.specs.declared.event.Event.{Event}
use Rattle.branch_marks.specs.declared.fact.Fact.{Fact}
use Rattle.branch_marks.specs.LogShown.{LogShown}
use Rattle.branch_marks.specs.TreeLog.{NotesFront}
use Rattle.node_leaves.specs.Place.{Open}
use Rattle.node_leaves.specs.Node.{Ending, Node, branches, closed_marks, IsShownNode, IsShownEnding, AreFirstCovers}
use Rattle.node_leaves.specs.Begun.{BegunTree, IsBegunFrom, Begun}
use Rattle.node_leaves.specs.NodeEvents.{events_of, node_events, ending_events, begun_events}
use Rattle.node_leaves.specs.Stops.{StopsIn}
use Rattle.node_leaves.specs.inside.Leaf.{Leaf, IsShownLeaf, leaf_events, IsCutAtLeaf}
use Rattle.node_leaves.specs.inside.Leaf as part
use Rattle.node_leaves.proofs.Runs.{grows_none, grows_one, events_one}

module _ (table : CostTableSeen) (book : BookSeen) (here : Open) (old new : LogShown) where
  -- what is told are events of this begun tree
  pub stops_in : (begun : BegunTree) (due : List Event) → IsBegunFrom table book (here ∷ []) begun → due ≡ begun_events begun → NotesFront old new due
      → StopsIn old new table book (here ∷ [])
  stops_in begun due from is front = λ told runs was. (begun, from, subst (λ (es : List Event). NotesFront old new es) is front told runs was)

  alone : Ending → Node
  alone ending = record { target = 0; steps = []; ending = ending }

  whole_events : (ending : Ending) → ending_events ending ≡ events_of (alone ending ∷ []) ++ []
  unfolding alone node_events
  whole_events ending = sym (append-nil (events_of (alone ending ∷ [])) ∙ events_one (alone ending))

  alone_shown : (ending : Ending) → IsShownEnding table book here.marks ending → IsShownNode table book here (alone ending)
  unfolding alone
  alone_shown ending shown = record { steps = tt; ending = subst (λ (m : List Fact). IsShownEnding table book m ending) (sym (append-nil here.marks)) shown }

  by_part : (leaf : Leaf) → IsShownLeaf table book here.marks leaf → NotesFront old new (leaf_events leaf) → StopsIn old new table book (here ∷ [])
  unfolding events_of
  by_part part.Untold shown front =
      stops_in (record { nodes = []; part = None }) [] (record { left = here ∷ []; grown = grows_none (IsShownNode table book) (here ∷ []); part = tt }) refl front
  by_part (part.Whole ending) shown front =
      stops_in (record { nodes = alone ending ∷ []; part = None }) (ending_events ending)
      (record {
        left = branches (closed_marks here (alone ending)) (alone ending).ending ++ [];
        grown = grows_one (IsShownNode table book) here [] (alone ending) (alone_shown ending shown);
        part = tt;
      })
      (whole_events ending) front
  by_part (part.Begun duals covers) shown front =
      stops_in (record { nodes = []; part = Some (Begun [] duals covers) }) (leaf_events (part.Begun duals covers))
      (record {
        left = here ∷ [];
        grown = grows_none (IsShownNode table book) (here ∷ []);
        part = (tt, shown.0, subst (λ (m : List Fact). AreFirstCovers table book m duals covers) (sym (append-nil here.marks)) shown.1);
      })
      refl front

  pub leaf_stops : IsCutAtLeaf table book here.marks old new → StopsIn old new table book (here ∷ [])
  leaf_stops cut = by_part cut.part cut.shown cut.front

  pub untold_stops : NotesFront old new [] → StopsIn old new table book (here ∷ [])
  untold_stops front = by_part part.Untold tt front
