-- A stop in a run of nodes: what was told is a front of a begun tree, which begins with the nodes that were told
-- before. A stop behind nodes is the stop at the places that they leave, with these nodes in front. More places behind
-- change nothing, since what was begun stands at the first place that is left. A stop between two nodes has begun
-- nothing.
use Rattle.std.proofs.Common.{◌≡◌, ◌∙◌, inl, List, [], ◌∷◌, ◌++◌, Option, Some, None, refl, sym, ap, subst, append_assoc}
use Rattle.tail_book.specs.Seen.{BookSeen}
use Rattle.tail_book.specs.TableSeen.{CostTableSeen}
use Rattle.branch_marks.specs.declared.event.Event.{Event}
use Rattle.branch_marks.specs.LogShown.{LogShown}
use Rattle.branch_marks.specs.TreeLog.{Notes, IsCut, IsLater}
use Rattle.node_leaves.specs.Begun.{BegunTree, IsBegunFrom, Part, StandsFirst}
use Rattle.node_leaves.specs.Growth.{Grows}
use Rattle.node_leaves.specs.Node.{Node, IsShownNode}
use Rattle.node_leaves.specs.NodeEvents.{events_of, part_events, begun_events}
use Rattle.node_leaves.specs.Place.{Open}
use Rattle.node_leaves.specs.Stops.{StopsIn}
use Rattle.node_leaves.proofs.Cuts.{cut_later, notes_none}
use Rattle.node_leaves.proofs.Runs.{grows_none, grows_then, grows_before, events_then, events_none}

module _ (table : CostTableSeen) (book : BookSeen) where
  part_behind : (left rest : List Open) (part : Option Part) → StandsFirst table book left part → StandsFirst table book (left ++ rest) part
  part_behind left rest None stands = tt
  part_behind [] rest (Some part) stands = absurd stands
  part_behind (here ∷ left) rest (Some part) stands = stands

  abbrev behind : List Node → BegunTree → BegunTree
  behind nodes begun = record { nodes = nodes ++ begun.nodes; part = begun.part }

  -- a begun tree at the places to which nodes lead
  begun_after : (owed : List Open) (nodes : List Node) (left : List Open) (begun : BegunTree)
      → Grows (IsShownNode table book) owed nodes left → IsBegunFrom table book left begun → IsBegunFrom table book owed (behind nodes begun)
  begun_after owed nodes left begun grows from = record {
    left = from.left;
    grown = grows_then (IsShownNode table book) owed nodes left begun.nodes from.left grows from.grown;
    part = from.part;
  }

  behind_events : (nodes : List Node) (begun : BegunTree) → events_of nodes ++ begun_events begun ≡ begun_events (behind nodes begun)
  behind_events nodes begun =
      sym (append_assoc (events_of nodes) (events_of begun.nodes) (part_events begun.part))
      ∙ ap (λ (es : List Event). es ++ part_events begun.part) (sym (events_then nodes begun.nodes))

  -- a stop that comes after nodes that were told
  pub stops_then : (old between new : LogShown) (owed : List Open) (nodes : List Node) (left : List Open) → IsLater between new
      → Grows (IsShownNode table book) owed nodes left → Notes old between (events_of nodes) → StopsIn between new table book left → StopsIn old new table book owed
  stops_then old between new owed nodes left later grows notes stops = λ told runs was.
      let stop = stops (told ++ events_of nodes) runs (notes told (later.ceases runs) was) in (
        behind nodes stop.0,
        begun_after owed nodes left stop.0 grows stop.1,
        subst (λ (due : List Event). IsCut new told due) (behind_events nodes stop.0) (cut_later new told (events_of nodes) (begun_events stop.0) stop.2),
      )

  -- a stop with more places behind
  pub stops_before : (old new : LogShown) (owed rest : List Open) → StopsIn old new table book owed → StopsIn old new table book (owed ++ rest)
  stops_before old new owed rest stops = λ told runs was.
      let stop = stops told runs was in let from = stop.1 in (
        stop.0,
        record {
          left = from.left ++ rest;
          grown = grows_before (IsShownNode table book) owed stop.0.nodes from.left rest from.grown;
          part = part_behind from.left rest stop.0.part from.part;
        },
        stop.2,
      )

  -- a stop between two nodes
  pub stops_between : (old new : LogShown) (owed : List Open) (nodes : List Node) (left : List Open) → Grows (IsShownNode table book) owed nodes left
      → Notes old new (events_of nodes) → StopsIn old new table book owed
  stops_between old new owed nodes left grows notes = λ told runs was. (
    record { nodes = nodes; part = None },
    record { left = left; grown = grows; part = tt },
    record { front = events_of nodes; rest = []; split = refl; state = inl (notes told runs was) },
  )

  -- a stop before anything was told
  pub stops_first : (log : LogShown) (owed : List Open) → StopsIn log log table book owed
  stops_first log owed =
      stops_between log log owed [] owed (grows_none (IsShownNode table book) owed)
      (subst (λ (due : List Event). Notes log log due) (sym events_none) (notes_none log))
