use Rattle.std.proofs.Common.{◌∙◌, ◌++◌, List, refl, ap}
use Rattle.node_leaves.specs.Node.{branches}
use Rattle.node_leaves.specs.Place.{Open}
use Rattle.branch_tree.specs.declared.open_places.OpenPlaces.{OpenPlaces}
use Rattle.branch_tree.specs.inside.OpenPlaces.{place_here, places_behind, places_of}
use Rattle.branch_tree.proofs.KeptPlaces.{same_behind, still_open}
use Rattle.branch_tree.proofs.OneMore.{visit_of, visit_stops}
use Rattle.branch_tree.proofs.visit.visit.Goals as goal

-- the diver was one of the book, and has forgotten its marks
pub node_step_with-requires-clause-tools : goal.node_step_with-requires-clause-tools
node_step_with-requires-clause-tools g c =
    let state = c.requires.state in
    record {
      prices = record { links = state.net; facts = state.places.branches.marks; pricer = state.prices };
      diver = c.forget.ensures c.args.book.now c.args.table.now state.diver c.args.state.now.places.branches.marks.facts;
    }

-- the marks have more facts, and all that is owed behind the node stays
pub go_on-requires-clause-open_places : goal.go_on-requires-clause-open_places
go_on-requires-clause-open_places g c =
    let before = c.args.state.now.places in let followed = c.node_step_with.ensures.followed in
    let after : OpenPlaces = record before { branches = record before.branches { marks = c.node_step_with.new.marks }; duals = c.node_step_with.new.duals } in
    still_open c.args.book.now before after followed.added c.requires.state.places followed.marks refl refl c.node_step_with.ensures.marks

-- the node, and its branches in front of the others
pub returns-in-Ok-go_on-clause-visited : goal.returns-in-Ok-go_on-clause-visited
returns-in-Ok-go_on-clause-visited g c =
    let before = c.args.state.now.places in let followed = c.node_step_with.ensures.followed in
    let after : OpenPlaces = record before { branches = record before.branches { marks = c.node_step_with.new.marks }; duals = c.node_step_with.new.duals } in
    let behind = same_behind c.args.book.now before after followed.added c.requires.state.places followed.marks refl refl in
    let marks = c.node_step_with.new.marks.facts in let visit = c.in-Ok.ensures.visit in
    visit_of c.args.table.now c.args.book.now (place_here before) (g.L.TreeLog.shows c.args.log.now) (g.L.TreeLog.shows c.node_step_with.new.log)
    marks c.node_step_with.new.duals.values c.node_step_with.new.best.target c.in-Ok.step visit (places_behind before) (places_of c.go_on.new.places)
    (c.in-Ok-go_on.ensures.places visit.node.ending visit.answers ∙ ap (λ (z : List Open). branches marks visit.node.ending ++ z) behind)

-- the whole node was told
pub returns-clause-stopped : goal.returns-clause-stopped
returns-clause-stopped g c =
    visit_stops c.args.table.now c.args.book.now (place_here c.args.state.now.places) (g.L.TreeLog.shows c.args.log.now) (g.L.TreeLog.shows c.node_step_with.new.log)
    c.node_step_with.new.marks.facts c.node_step_with.new.duals.values c.node_step_with.new.best.target c.in-Ok.step c.in-Ok.ensures.visit
