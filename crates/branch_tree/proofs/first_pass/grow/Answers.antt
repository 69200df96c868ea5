use Rattle.std.proofs.Common.{◌≡◌, true, false, ◌≤◌, inl, inr, ℕ, List, [], ◌∷◌, ◌++◌, length, arith, rules, sym, subst, ◌∙◌, length-append}
use Rattle.branch_marks.specs.declared.event.Event.{Event}
use Rattle.branch_marks.specs.TreeLog.{Notes}
use Rattle.branch_tree.specs.Counted.{IsCounted}
use Rattle.node_leaves.specs.Growth.{Grows}
use Rattle.node_leaves.specs.Node.{IsShownNode}
use Rattle.node_leaves.specs.NodeEvents.{events_of, node_events}
use Rattle.node_leaves.specs.Place.{Open, root}
use Rattle.node_leaves.specs.Stops.{StopsIn}
use Rattle.node_leaves.specs.Target.{no_target, FallsTo}
use Rattle.branch_tree.specs.inside.OpenPlaces.{place_here, places_behind, places_of}
use Rattle.branch_tree.specs.inside.SearchParts.{ArePlaces, Counts}
use Rattle.node_leaves.proofs.Cuts.{later_none, later_then, notes_none, notes_then}
use Rattle.branch_tree.proofs.KeptPlaces.{first_before}
use Rattle.branch_tree.proofs.LeastLeft.{none_counted, stopped_there}
use Rattle.branch_tree.proofs.PlaceDuals.{first_is, left_are}
use Rattle.branch_tree.proofs.Room.{lighter}
use Rattle.node_leaves.proofs.Runs.{grows_none, grows_more, grows_weaker, falls_none, falls_more, events_none, events_push}
use Rattle.branch_tree.proofs.Stopping.{stops_before, stops_between, stops_then}
use Rattle.branch_tree.proofs.first_pass.grow.Goals as goal

-- no node was counted
pub nodes-init : goal.nodes-init
nodes-init g c =
    let log = g.L.TreeLog.shows c.args.log.now in let book = c.args.book.now in let table = c.args.table.now in
    record {
      grown = record {
        counted = [];
        grown = subst (λ (o : List Open). Grows (IsCounted table book) (root book ∷ []) [] o) (sym c.requires.root) (grows_none (IsCounted table book) (root book ∷ []));
        falls = falls_none (no_target table) c.args.state.now.best.target c.requires.first;
        counts = none_counted c.args.limit;
        told = subst (λ (due : List Event). Notes log log due) (sym events_none) (notes_none log);
      };
      state = c.requires.state;
      falls = omega arith;
      later = later_none log;
      beside = g.met.L.TreeLog.beside_same c.args.log.now;
    }

-- it is an open place of the search
pub visit-requires-clause-place : goal.visit-requires-clause-place
visit-requires-clause-place g c =
    let run = c.nodes.invariant.grown in let now = c.next.new.self in
    let owes : now.branches.owes ≡ true = search rules in
    let first = first_before c.nodes.state.places now c.in-Ok.ensures.places owes in
    first_is c.zeros_are_duals.ensures c.args.table.now c.args.book.now run.counted (places_of c.nodes.state.places) (place_here now) (places_behind now) run.grown first

-- nothing more was told
pub returns-in_default-clause-stopped : goal.returns-in_default-clause-stopped
returns-in_default-clause-stopped g c =
    let run = c.nodes.invariant.grown in let book = c.args.book.now in let table = c.args.table.now in let left = places_of c.nodes.state.places in
    let old = g.L.TreeLog.shows c.args.log.now in let new = g.L.TreeLog.shows c.nodes.log in
    let shown = grows_weaker (IsCounted table book) (IsShownNode table book) (λ here node h. h.shown) (root book ∷ []) run.counted left run.grown in
    stops_between table book old new (root book ∷ []) run.counted left shown run.told

-- the begun tree of the stop comes after the counted nodes
pub returns-in-Err-clause-stopped : goal.returns-in-Err-clause-stopped
returns-in-Err-clause-stopped g c =
    let i = c.nodes.invariant in let book = c.args.book.now in let table = c.args.table.now in let left = places_of c.nodes.state.places in
    let now = c.next.new.self in
    let owes : now.branches.owes ≡ true = search rules in
    let first = first_before c.nodes.state.places now c.in-Ok.ensures.places owes in
    let old = g.L.TreeLog.shows c.args.log.now in let between = g.L.TreeLog.shows c.nodes.log in let new = g.L.TreeLog.shows c.visit.new.log in
    let shown = grows_weaker (IsCounted table book) (IsShownNode table book) (λ here node h. h.shown) (root book ∷ []) i.grown.counted left i.grown.grown in
    let stops = stops_before table book between new (place_here now ∷ []) (places_behind now) c.in-Err.ensures.stopped in
    stops_then table book old between new (root book ∷ []) i.grown.counted left c.in-Err.ensures.later shown i.grown.told
    (subst (λ (o : List Open). StopsIn between new table book o) (sym first) stops)

pub nodes-smaller : goal.nodes-smaller
nodes-smaller g c =
    let v = c.in_default-visit.ensures.visited in let now = c.next.new.self in
    let owes : now.branches.owes ≡ true = search rules in
    let first = first_before c.nodes.state.places now c.in-Ok.ensures.places owes in
    lighter c.facts_leave_no_more.ensures c.branches_leave_fewer.ensures c.args.table.now c.args.book.now (places_of c.nodes.state.places) (place_here now) (places_behind now)
    v.node (places_of c.visit.new.state.places) first v.counted.shown v.left

pub nodes-preserved : goal.nodes-preserved
nodes-preserved g c =
    let i = c.nodes.invariant in let run = i.grown in let v = c.in_default-visit.ensures.visited in
    let book = c.args.book.now in let table = c.args.table.now in let node = v.node in let now = c.next.new.self in
    let owes : now.branches.owes ≡ true = search rules in
    let first = first_before c.nodes.state.places now c.in-Ok.ensures.places owes in
    let old = g.L.TreeLog.shows c.args.log.now in let between = g.L.TreeLog.shows c.nodes.log in let new = g.L.TreeLog.shows c.visit.new.log in
    let lower : node.target ≤ c.nodes.state.best.target = omega (arith, v.goal, c.visit.ensures.falls) in
    record {
      grown = record {
        counted = run.counted ++ node ∷ [];
        grown = grows_more (IsCounted table book) (root book ∷ []) run.counted (places_of c.nodes.state.places) (place_here now) (places_behind now) node
            (places_of c.visit.new.state.places) run.grown first v.counted v.left;
        falls = subst (λ (t : ℕ). FallsTo (no_target table) (run.counted ++ node ∷ []) t) v.goal
            (falls_more (no_target table) run.counted c.nodes.state.best.target node run.falls lower);
        counts = subst (λ (n : ℕ). Counts c.args.limit c.count_one-counter.result n) (sym (length-append run.counted (node ∷ [])))
            (c.count_one-counter.ensures (length run.counted) run.counts);
        told = subst (λ (due : List Event). Notes old new due) (sym (events_push run.counted node))
            (notes_then old between new (events_of run.counted) (node_events node) c.visit.ensures.later run.told v.told);
      };
      state = c.in_default-visit.ensures.state;
      falls = omega (arith, i.falls, c.visit.ensures.falls);
      later = later_then old between new i.later c.visit.ensures.later;
      beside = g.met.L.TreeLog.beside_chains c.args.log.now c.nodes.log c.visit.new.log i.beside c.visit.ensures.beside;
    }

-- no place is open, or the limit is reached
pub returns-then-not-found-clause-grown : goal.returns-then-not-found-clause-grown
returns-then-not-found-clause-grown g c =
    let run = c.nodes.invariant.grown in let now = c.next.new.self in
    let missing : c.in-Ok.found ≡ false = search rules in
    let none = c.in-Ok.ensures.none missing in
    record {
      run = record {
        counted = run.counted;
        grown = subst (λ (o : List Open). Grows (IsCounted c.args.table.now c.args.book.now) (root c.args.book.now ∷ []) run.counted o) (sym c.in-Ok.ensures.places) run.grown;
        falls = run.falls;
        counts = run.counts;
        told = run.told;
      };
      reached = inl (c.in-Ok.ensures.places ∙ none);
    }

pub returns-clause-grown : goal.returns-clause-grown
returns-clause-grown g c =
    let run = c.nodes.invariant.grown in
    let no_more : c.allows.result ≡ false = search rules in
    record { run = run; reached = inr (stopped_there c.args.limit c.nodes.counter (length run.counted) (c.allows.ensures.none no_more) run.counts) }

-- those that are left are places of the search
pub returns-then-not-found-clause-places : goal.returns-then-not-found-clause-places
returns-then-not-found-clause-places g c =
    let missing : c.in-Ok.found ≡ false = search rules in
    subst (λ (o : List Open). ArePlaces c.args.table.now c.args.book.now o) (sym (c.in-Ok.ensures.places ∙ c.in-Ok.ensures.none missing)) tt

pub returns-clause-places : goal.returns-clause-places
returns-clause-places g c =
    let run = c.nodes.invariant.grown in
    left_are c.zeros_are_duals.ensures c.args.table.now c.args.book.now run.counted (places_of c.nodes.state.places) run.grown
