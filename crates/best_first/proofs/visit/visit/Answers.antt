use Rattle.std.proofs.Common.{◌≡◌, ◌∙◌, ℤ, List, get_or, rules, sym, ap, subst}
use Rattle.branch_marks.specs.Settled.{AreDuals}
use Rattle.node_leaves.specs.Place.{open_place}
use Rattle.best_first.specs.declared.links.Link.{Link}
use Rattle.best_first.specs.declared.slots.Slot.{Slot}
use Rattle.best_first.specs.inside.Links.{facts_at}
use Rattle.best_first.specs.inside.Slots.{IsSlot, slot_at}
use Rattle.best_first.proofs.NodesKept.{no_slot}
use Rattle.best_first.proofs.SlotEdits.{same_at}
use Rattle.best_first.proofs.SlotPlaces.{shut_of, slot_duals, slot_of}
use Rattle.best_first.proofs.visit.visit.Goals as goal

pub go_to_slot-requires-clause-slot : goal.go_to_slot-requires-clause-slot
go_to_slot-requires-clause-slot c =
    let table = c.args.table.now in let book = c.args.book.now in let state = c.args.state.now in let slots = state.slots.items in let p = c.args.p in
    let less = c.requires.next.first.0 in
    let at : c.index-slot.result.now ≡ get_or slots p c.index-slot.result.now = search rules in
    let here = at ∙ same_at slots p c.index-slot.result.now no_slot less in
    let is = slot_of table book state.links.items slots state.count state.best.target c.requires.slots p less in (
      table,
      subst (λ (l : List Link). IsSlot table book l c.index-slot.result.now) (sym c.deref.ensures.value)
          (subst (λ (s : Slot). IsSlot table book state.links.items s) (sym here) is),
    )

-- the diver was one of the book, and has forgotten its marks
pub node_step_with-stepped-requires-clause-tools : goal.node_step_with-stepped-requires-clause-tools
node_step_with-stepped-requires-clause-tools c =
    let state = c.requires.state in
    record {
      prices = record { links = state.net; facts = c.go_to_slot.ensures.marks; pricer = state.prices };
      diver = c.forget.ensures c.args.book.now c.args.table.now state.diver c.go_to_slot.new.marks.facts;
    }

pub node_step_with-stepped-requires-clause-duals : goal.node_step_with-stepped-requires-clause-duals
node_step_with-stepped-requires-clause-duals c =
    let table = c.args.table.now in let book = c.args.book.now in let state = c.args.state.now in let slots = state.slots.items in let p = c.args.p in
    let less = c.requires.next.first.0 in
    let at : c.index-slot.result.now ≡ get_or slots p c.index-slot.result.now = search rules in
    let here = at ∙ same_at slots p c.index-slot.result.now no_slot less in
    let values : c.in_ok-values.values.items ≡ c.index-slot.result.now.duals.values = search rules in
    subst (λ (u : List ℤ). AreDuals table book u) (sym (values ∙ ap (λ (s : Slot). s.duals.values) here))
    (slot_duals table book state.links.items (slot_at slots p) (slot_of table book state.links.items slots state.count state.best.target c.requires.slots p less)
    c.requires.next.first.1)

pub keep_node-requires-clause-end : goal.keep_node-requires-clause-end
keep_node-requires-clause-end c =
    let state = c.args.state.now in
    (slot_of c.args.table.now c.args.book.now state.links.items state.slots.items state.count state.best.target c.requires.slots c.args.p c.requires.next.first.0).2.within

-- the node of the step, in the place of the open slot
pub returns-clause-more : goal.returns-clause-more
returns-clause-more c =
    let table = c.args.table.now in let book = c.args.book.now in let state = c.args.state.now in let slots = state.slots.items in let p = c.args.p in
    let less = c.requires.next.first.0 in
    let at : c.index-slot.result.now ≡ get_or slots p c.index-slot.result.now = search rules in
    let here = at ∙ same_at slots p c.index-slot.result.now no_slot less in
    let stepped = c.node_step_with-stepped in
    let facts : c.go_to_slot.new.marks.facts ≡ facts_at state.links.items (slot_at slots p).end =
    c.in_ok-go_to_slot.ensures.facts ∙ ap (λ (l : List Link). facts_at l c.index-slot.result.now.end) c.deref.ensures.value
    ∙ ap (λ (s : Slot). facts_at state.links.items s.end) here in
    let shut = shut_of table book (open_place c.go_to_slot.new.marks.facts c.in_ok-values.values.items) stepped.new.marks.facts stepped.new.duals.values
    stepped.new.best.target _ _ c.in-Ok.step c.in-Ok.ensures.visit (facts_at state.links.items (slot_at slots p).end) facts in
    c.in_ok-keep_node.ensures table book state.best.target c.requires.slots c.requires.next stepped.ensures.falls stepped.ensures.duals shut c.in-Ok.ensures.truth
