use Rattle.std.proofs.Common.{rules, refl, subst}
use Rattle.propagator.specs.declared.hole.Closed.{Closed}
use Rattle.propagator.specs.Closed.{IsClosedAt}
use Rattle.node_leaves.specs.Node.{Hole}
use Rattle.node_leaves.specs.Place.{Open}
use Rattle.branch_tree.specs.declared.step.Step.TheVariants as step
use Rattle.node_leaves.specs.inside.Leaf.{Whole}
use Rattle.branch_tree.proofs.Holes.{hole_is, no_hole_unless}
use Rattle.branch_tree.proofs.NodeStops.{end_stops, shut_stops, steps_stop}
use Rattle.branch_tree.proofs.Rising.{rises_before}
use Rattle.branch_tree.proofs.Visits.{visited}
use Rattle.branch_tree.proofs.node.node_step_with.Goals as goal

-- a stop in the steps
pub returns-in-Err-clause-stopped : goal.returns-in-Err-clause-stopped
returns-in-Err-clause-stopped g c =
    let table = c.args.table.now in let book = c.args.book.now in
    let here : Open = record { marks = c.args.marks.now.facts; duals = c.args.duals.now.values } in
    let after = c.shut_and_tell.new.marks.facts in
    let old = g.L.TreeLog.shows c.args.log.now in let between = g.L.TreeLog.shows c.shut_and_tell.new.log in
    steps_stop table book here old between c.in-Err.ensures.cut

-- at a hole
pub returns-in-Err-note_one-clause-stopped : goal.returns-in-Err-note_one-clause-stopped
returns-in-Err-note_one-clause-stopped g c =
    let table = c.args.table.now in let book = c.args.book.now in
    let here : Open = record { marks = c.args.marks.now.facts; duals = c.args.duals.now.values } in
    let after = c.shut_and_tell.new.marks.facts in
    let old = g.L.TreeLog.shows c.args.log.now in let between = g.L.TreeLog.shows c.shut_and_tell.new.log in
    let answer = subst (λ (closed : Closed). IsClosedAt book after closed) c.in-Hole.is c.in-Ok.ensures.answer in
    end_stops table book here old between (g.L.TreeLog.shows c.note_one.new.log) after c.in-Err-note_one.ensures.later c.in-Ok.ensures.told
    (record { part = Whole (Hole c.in-Hole.a); shown = hole_is book after c.in-Hole.a answer; front = c.in-Err-note_one.ensures.cut })

pub returns-in-Hole-clause-visit : goal.returns-in-Hole-clause-visit
returns-in-Hole-clause-visit g c =
    let table = c.args.table.now in let book = c.args.book.now in
    let here : Open = record { marks = c.args.marks.now.facts; duals = c.args.duals.now.values } in
    let after = c.shut_and_tell.new.marks.facts in
    let old = g.L.TreeLog.shows c.args.log.now in let between = g.L.TreeLog.shows c.shut_and_tell.new.log in
    let answer = subst (λ (closed : Closed). IsClosedAt book after closed) c.in-Hole.is c.in-Ok.ensures.answer in
    visited table book here after c.args.duals.now.values c.args.best.now.plan c.args.best.now.target old between (g.L.TreeLog.shows c.note_one.new.log)
    c.note_one.ensures.later c.requires.best c.in-Ok.ensures.shut c.in-Ok.ensures.told (step.Hole c.in-Hole.a)
    (record { ending = Hole c.in-Hole.a; shown = hole_is book after c.in-Hole.a answer; right = tt; answers = refl; told = search rules })

-- there is no hole
pub find_end-requires-clause-somebody : goal.find_end-requires-clause-somebody
find_end-requires-clause-somebody g c =
    no_hole_unless c.args.book.now c.shut_and_tell.new.marks.facts c.in-Ok.closed c.in_default.not-Hole c.in-Ok.ensures.answer

-- before the end was found, and while it was told
pub returns-in-Err-find_end-clause-stopped : goal.returns-in-Err-find_end-clause-stopped
returns-in-Err-find_end-clause-stopped g c =
    let table = c.args.table.now in let book = c.args.book.now in
    let here : Open = record { marks = c.args.marks.now.facts; duals = c.args.duals.now.values } in
    let after = c.shut_and_tell.new.marks.facts in
    let old = g.L.TreeLog.shows c.args.log.now in let between = g.L.TreeLog.shows c.shut_and_tell.new.log in
    shut_stops table book here old between after c.in-Ok.ensures.told

pub returns-in-Err-note_end-clause-stopped : goal.returns-in-Err-note_end-clause-stopped
returns-in-Err-note_end-clause-stopped g c =
    let table = c.args.table.now in let book = c.args.book.now in
    let here : Open = record { marks = c.args.marks.now.facts; duals = c.args.duals.now.values } in
    let after = c.shut_and_tell.new.marks.facts in
    let old = g.L.TreeLog.shows c.args.log.now in let between = g.L.TreeLog.shows c.shut_and_tell.new.log in
    end_stops table book here old between (g.L.TreeLog.shows c.note_end.new.log) after c.in-Err-note_end.ensures.later c.in-Ok.ensures.told
    c.in-Err-note_end.ensures.cut

-- the node with its end
pub returns-in-Ok-note_end-clause-visit : goal.returns-in-Ok-note_end-clause-visit
returns-in-Ok-note_end-clause-visit g c =
    let table = c.args.table.now in let book = c.args.book.now in
    let here : Open = record { marks = c.args.marks.now.facts; duals = c.args.duals.now.values } in
    let after = c.shut_and_tell.new.marks.facts in
    let old = g.L.TreeLog.shows c.args.log.now in let between = g.L.TreeLog.shows c.shut_and_tell.new.log in
    visited table book here after c.find_end.new.duals.values c.find_end.new.best.plan c.find_end.new.best.target old between (g.L.TreeLog.shows c.note_end.new.log)
    c.in-Ok-note_end.ensures.later c.find_end.ensures.best c.in-Ok.ensures.shut c.in-Ok.ensures.told c.in-Ok-note_end.step c.in-Ok-note_end.ensures.noted

-- a split bounds no lower than its place: so it is under the marks that are shut, which hold those of the place
pub returns-in-Ok-note_end-clause-rises : goal.returns-in-Ok-note_end-clause-rises
returns-in-Ok-note_end-clause-rises g c =
    let from = c.args.duals.now.values in
    rises_before c.sums_exist.ensures c.sums_never_fall.ensures c.args.table.now c.args.book.now c.every_book_is_sound.ensures
    c.args.marks.now.facts c.shut_and_tell.new.marks.facts from c.find_end.new.duals.values c.find_end.new.best.target c.shut_and_tell.ensures.followed
    c.in-Ok-note_end.step c.in-Ok-note_end.ensures.truth (c.in-Ok-note_end.ensures.rises from c.in-Ok-find_end.ensures.rises)
