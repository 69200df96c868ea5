use Rattle.std.proofs.Common.{◌≡◌, ◌∙◌, ◌<◌, ℕ, List, [], ◌∷◌, length, get_or, rules, sym, subst}
use Rattle.node_leaves.proofs.Cuts.{later_none, later_then}
use Rattle.node_leaves.specs.Stops.{StopsIn}
use Rattle.best_first.specs.declared.slots.Slot.{Slot}
use Rattle.best_first.specs.BestTree.{Owed}
use Rattle.best_first.specs.inside.Slots.{IsSlot, IsSlotAt, slot_at}
use Rattle.best_first.specs.inside.Tellings.{AreToldTo, IsSlotTold}
use Rattle.best_first.proofs.NodesKept.{no_slot}
use Rattle.best_first.proofs.SlotEdits.{same_at}
use Rattle.best_first.proofs.TreesTold.{next_slot, told_all, told_more, told_none, told_stops}
use Rattle.best_first.proofs.tree_telling.tell_tree.Goals as goal

pub loop-p-init : goal.loop-p-init
loop-p-init g c =
    let log = g.L.TreeLog.shows c.args.log.now in
    record {
      told = told_none c.args.table.now c.args.book.now c.args.target c.args.links.now c.args.slots.now log c.requires.laid;
      ready = c.requires.ready;
      later = later_none log;
      beside = g.met.L.TreeLog.beside_same c.args.log.now;
    }

-- the next slot stands at the first place that is owed
pub tell_slot-requires-clause-slot : goal.tell_slot-requires-clause-slot
tell_slot-requires-clause-slot g c =
    let less : c.loop-p.p < length c.args.slots.now = search rules in
    let slots = c.args.slots.now in
    let at : c.index-slots-p.result ≡ get_or slots c.loop-p.p c.index-slots-p.result = search rules in
    let here : c.index-slots-p.result ≡ slot_at slots c.loop-p.p = at ∙ same_at slots c.loop-p.p c.index-slots-p.result no_slot less in
    subst (λ (s : Slot). IsSlot c.args.table.now c.args.book.now c.args.links.now s) (sym here)
    (next_slot c.args.table.now c.args.book.now c.args.target c.args.links.now slots c.loop-p.p less c.loop-p.low
    (g.L.TreeLog.shows c.args.log.now) (g.L.TreeLog.shows c.loop-p.log) c.loop-p.invariant.told)

pub returns-in-Err-clause-stopped : goal.returns-in-Err-clause-stopped
returns-in-Err-clause-stopped g c =
    let less : c.loop-p.p < length c.args.slots.now = search rules in
    let slots = c.args.slots.now in
    let at : c.index-slots-p.result ≡ get_or slots c.loop-p.p c.index-slots-p.result = search rules in
    let here : c.index-slots-p.result ≡ slot_at slots c.loop-p.p = at ∙ same_at slots c.loop-p.p c.index-slots-p.result no_slot less in
    told_stops c.args.table.now c.args.book.now c.args.target c.args.links.now c.args.slots.now c.loop-p.p less c.loop-p.low
    (g.L.TreeLog.shows c.args.log.now) (g.L.TreeLog.shows c.loop-p.log) c.loop-p.invariant.told (g.L.TreeLog.shows c.tell_slot.new.log)
    c.in-Err.ensures.later
    (subst (λ (s : Slot). (o : Owed) (opened : List Owed) → IsSlotAt c.args.table.now c.args.book.now c.args.links.now o s opened
    → StopsIn (g.L.TreeLog.shows c.loop-p.log) (g.L.TreeLog.shows c.tell_slot.new.log) c.args.table.now c.args.book.now (o.place ∷ []))
    here c.in-Err.ensures.stopped)

-- one slot more was told
pub loop-p-preserved : goal.loop-p-preserved
loop-p-preserved g c =
    let less : c.loop-p.p < length c.args.slots.now = search rules in
    let old = g.L.TreeLog.shows c.args.log.now in let between = g.L.TreeLog.shows c.loop-p.log in let new = g.L.TreeLog.shows c.tell_slot.new.log in
    let slots = c.args.slots.now in
    let at : c.index-slots-p.result ≡ get_or slots c.loop-p.p c.index-slots-p.result = search rules in
    let here : c.index-slots-p.result ≡ slot_at slots c.loop-p.p = at ∙ same_at slots c.loop-p.p c.index-slots-p.result no_slot less in
    record {
      told = told_more c.args.table.now c.args.book.now c.args.target c.args.links.now c.args.slots.now c.loop-p.p less c.loop-p.low old between
          c.loop-p.invariant.told new c.in-Ok.least c.in-Ok.ensures.later
          (subst (λ (s : Slot). IsSlotTold c.args.table.now c.args.book.now c.args.target c.args.links.now s c.loop-p.low c.in-Ok.least between new) here
          c.in-Ok.ensures.told);
      ready = c.tell_slot.ensures.ready;
      later = later_then old between new c.loop-p.invariant.later c.in-Ok.ensures.later;
      beside = g.met.L.TreeLog.beside_chains c.args.log.now c.loop-p.log c.tell_slot.new.log c.loop-p.invariant.beside c.tell_slot.ensures.beside;
    }

-- all were told
pub returns-clause-told : goal.returns-clause-told
returns-clause-told g c =
    let old = g.L.TreeLog.shows c.args.log.now in let new = g.L.TreeLog.shows c.loop-p.log in
    let slots = c.args.slots.now in
    let all : c.loop-p.p ≡ length slots = search rules in
    told_all c.args.table.now c.args.book.now c.args.target c.args.links.now slots c.loop-p.low old new
    (subst (λ (n : ℕ). AreToldTo c.args.table.now c.args.book.now c.args.target c.args.links.now slots n c.loop-p.low old new) all c.loop-p.invariant.told)
