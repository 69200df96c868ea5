use Rattle.std.proofs.Common.{◌≡◌, ◌∙◌, true, List, [], ◌∷◌, ◌++◌, refl, rules, sym, subst}
use Rattle.branch_marks.specs.declared.event.Event.{Event}
use Rattle.branch_marks.specs.TreeLog.{Notes}
use Rattle.branch_tree.specs.Closing.{IsClosing}
use Rattle.node_leaves.specs.Node.{IsShownNode, closed_marks}
use Rattle.node_leaves.specs.NodeEvents.{events_of, node_events}
use Rattle.node_leaves.specs.Place.{Open}
use Rattle.node_leaves.specs.Stops.{StopsIn}
use Rattle.branch_tree.specs.inside.OpenPlaces.{place_here, places_behind, places_of}
use Rattle.branch_tree.specs.inside.SearchParts.{ArePlaces}
use Rattle.node_leaves.proofs.Cuts.{later_none, later_then, notes_none, notes_then}
use Rattle.branch_tree.proofs.LeastLeft.{no_nodes, priced_alone}
use Rattle.node_leaves.proofs.Runs.{grows_none, grows_more, grows_weaker, events_none, events_push}
use Rattle.branch_tree.proofs.KeptPlaces.{first_before}
use Rattle.branch_tree.proofs.Stopping.{stops_before, stops_between, stops_then}
use Rattle.branch_tree.proofs.second_pass.close.Goals as goal

-- nothing was closed
pub nodes-init : goal.nodes-init
nodes-init g c =
    let log = g.L.TreeLog.shows c.args.log.now in
    record {
      closed = record {
        closing = [];
        closed = grows_none (IsClosing c.args.table.now c.args.book.now c.args.target) (places_of c.args.state.now.places);
        lowest = no_nodes c.args.target;
        told = subst (λ (due : List Event). Notes log log due) (sym events_none) (notes_none log);
      };
      places = c.requires.places;
      state = c.requires.state;
      best = refl;
      later = later_none log;
      beside = g.met.L.TreeLog.beside_same c.args.log.now;
    }

-- the place that comes next is the first of those that were left
pub close_one-requires-clause-place : goal.close_one-requires-clause-place
close_one-requires-clause-place g c =
    let now = c.next.new.self in
    let owes : now.branches.owes ≡ true = search rules in
    let first = first_before c.nodes.state.places now c.in-Ok.ensures.places owes in
    (subst (λ (o : List Open). ArePlaces c.args.table.now c.args.book.now o) first c.nodes.invariant.places).0

-- nothing more was told
pub returns-in_default-clause-stopped : goal.returns-in_default-clause-stopped
returns-in_default-clause-stopped g c =
    let i = c.nodes.invariant in let book = c.args.book.now in let table = c.args.table.now in let target = c.args.target in
    let old = g.L.TreeLog.shows c.args.log.now in let new = g.L.TreeLog.shows c.nodes.log in let places = places_of c.args.state.now.places in
    let shown = grows_weaker (IsClosing table book target) (IsShownNode table book) (λ here node h. h.shown) places i.closed.closing (places_of c.nodes.state.places) i.closed.closed in
    stops_between table book old new places i.closed.closing (places_of c.nodes.state.places) shown i.closed.told

-- the begun tree of the stop comes after the closed places
pub returns-in-Err-clause-stopped : goal.returns-in-Err-clause-stopped
returns-in-Err-clause-stopped g c =
    let i = c.nodes.invariant in let book = c.args.book.now in let table = c.args.table.now in let target = c.args.target in
    let now = c.next.new.self in
    let owes : now.branches.owes ≡ true = search rules in
    let first = first_before c.nodes.state.places now c.in-Ok.ensures.places owes in
    let places = places_of c.args.state.now.places in let left = places_of c.nodes.state.places in
    let old = g.L.TreeLog.shows c.args.log.now in let between = g.L.TreeLog.shows c.nodes.log in let new = g.L.TreeLog.shows c.close_one.new.log in
    let shown = grows_weaker (IsClosing table book target) (IsShownNode table book) (λ here node h. h.shown) places i.closed.closing left i.closed.closed in
    let stops = stops_before table book between new (place_here now ∷ []) (places_behind now) c.in-Err.ensures.stopped in
    stops_then table book old between new places i.closed.closing left c.in-Err.ensures.later shown i.closed.told
    (subst (λ (o : List Open). StopsIn between new table book o) (sym first) stops)

-- one place more was closed
pub nodes-preserved : goal.nodes-preserved
nodes-preserved g c =
    let i = c.nodes.invariant in let run = i.closed in let one = c.in-Ok-close_one.ensures.closed in
    let book = c.args.book.now in let table = c.args.table.now in let node = one.node in
    let now = c.next.new.self in
    let owes : now.branches.owes ≡ true = search rules in
    let first = first_before c.nodes.state.places now c.in-Ok.ensures.places owes in
    let here = place_here now in let behind = places_behind now in let after = places_of c.close_one.new.state.places in
    let target = c.args.target in let places = places_of c.args.state.now.places in
    let old = g.L.TreeLog.shows c.args.log.now in let between = g.L.TreeLog.shows c.nodes.log in let new = g.L.TreeLog.shows c.close_one.new.log in
    let alone = priced_alone table book here (closed_marks here node) node.ending behind one.closing.priced in
    record {
      closed = record {
        closing = run.closing ++ node ∷ [];
        closed = grows_more (IsClosing table book target) places run.closing (places_of c.nodes.state.places) here behind node after run.closed
            first one.closing (c.in-Ok-close_one.ensures.left ∙ alone);
        lowest = one.lowest run.closing run.lowest;
        told = subst (λ (due : List Event). Notes old new due) (sym (events_push run.closing node))
            (notes_then old between new (events_of run.closing) (node_events node) c.in-Ok-close_one.ensures.later run.told one.told);
      };
      places = subst (λ (o : List Open). ArePlaces table book o) (sym c.in-Ok-close_one.ensures.left)
          (subst (λ (o : List Open). ArePlaces table book o) first i.places).1;
      state = c.close_one.ensures.state;
      best = c.close_one.ensures.best ∙ i.best;
      later = later_then old between new i.later c.in-Ok-close_one.ensures.later;
      beside = g.met.L.TreeLog.beside_chains c.args.log.now c.nodes.log c.close_one.new.log i.beside c.close_one.ensures.beside;
    }
