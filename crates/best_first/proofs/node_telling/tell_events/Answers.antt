use Rattle.std.proofs.Common.{◌≡◌, [], ◌∷◌, List, arith, sym, subst}
use Rattle.std.specs.Prelude.{All}
use Rattle.branch_marks.specs.declared.fact.Fact.{Fact}
use Rattle.branch_marks.specs.Events.{IsLineFact}
use Rattle.branch_marks.specs.TreeLog.{Notes, NotesFront}
use Rattle.node_leaves.specs.NodeEvents.{step_events}
use Rattle.branch_tree.proofs.LineFacts.{line_facts}
use Rattle.branch_tree.proofs.Stopping.{stops_first}
use Rattle.best_first.specs.inside.Links.{facts_at}
use Rattle.best_first.specs.inside.Tellings.{IsEndTold}
use Rattle.best_first.proofs.SlotsTold.{end_kept, kept_end_stop, kept_steps_stop, kept_told}
use Rattle.best_first.proofs.node_telling.tell_events.Goals as goal

-- nothing was told
pub returns-in-Err-clause-stopped : goal.returns-in-Err-clause-stopped
returns-in-Err-clause-stopped g c = λ here opened at. stops_first c.args.table.now c.args.book.now (g.L.TreeLog.shows c.args.log.now) (here.place ∷ [])

-- its steps follow, so a line spells each
pub note_steps-requires : goal.note_steps-requires
note_steps-requires g c =
    let sound = c.every_book_is_sound.ensures in
    let is : c.deref.result.now ≡ c.in-Ok.steps.items = c.deref.ensures.value in
    subst (λ (facts : List Fact). All IsLineFact facts) (sym is)
    (line_facts c.following_facts_are_of_book.ensures c.args.book.now (omega (arith, sound.few_activities)) (omega (arith, sound.few_tails))
    (facts_at c.args.links.now c.args.slot.now.end) c.in-Ok.steps.items c.in-Ok.ensures.follow)

-- a stop in the steps
pub returns-in-Err-note_steps-clause-stopped : goal.returns-in-Err-note_steps-clause-stopped
returns-in-Err-note_steps-clause-stopped g c = λ here opened at.
    let old = g.L.TreeLog.shows c.args.log.now in let new = g.L.TreeLog.shows c.note_steps.new.log in
    let is : c.deref.result.now ≡ c.in-Ok.steps.items = c.deref.ensures.value in
    kept_steps_stop c.args.table.now c.args.book.now 0 c.args.links.now c.args.slot.now c.args.kept.now c.requires.kept c.in-Ok.steps.items
    c.in-Ok.ensures.follow old here opened at new
    (subst (λ (fs : List Fact). NotesFront old new (step_events fs)) is c.in-Err-note_steps.ensures.cut)

pub tell_end-requires-clause-ended : goal.tell_end-requires-clause-ended
tell_end-requires-clause-ended g c =
    end_kept c.args.table.now c.args.book.now 0 c.args.links.now c.args.slot.now c.args.kept.now c.requires.kept c.requires.slot
    c.go_to_node.new.marks.facts c.in-Ok.ensures.facts

-- a stop at its end
pub returns-in-Err-tell_end-clause-stopped : goal.returns-in-Err-tell_end-clause-stopped
returns-in-Err-tell_end-clause-stopped g c = λ here opened at.
    let old = g.L.TreeLog.shows c.args.log.now in let between = g.L.TreeLog.shows c.note_steps.new.log in
    let is : c.deref.result.now ≡ c.in-Ok.steps.items = c.deref.ensures.value in
    kept_end_stop c.args.table.now c.args.book.now 0 c.args.links.now c.args.slot.now c.args.kept.now c.requires.kept c.in-Ok.steps.items
    c.in-Ok.ensures.follow old here opened at c.in-Ok.ensures.steps between (g.L.TreeLog.shows c.tell_end.new.log)
    (subst (λ (fs : List Fact). Notes old between (step_events fs)) is c.in_default.ensures.noted) c.in-Err-tell_end.ensures.later
    c.go_to_node.new.marks.facts c.in-Ok.ensures.facts c.in-Err-tell_end.ensures.cut

-- the steps and the end
pub returns-clause-told : goal.returns-clause-told
returns-clause-told g c = λ final low.
    let old = g.L.TreeLog.shows c.args.log.now in let between = g.L.TreeLog.shows c.note_steps.new.log in let new = g.L.TreeLog.shows c.tell_end.new.log in
    let is : c.deref.result.now ≡ c.in-Ok.steps.items = c.deref.ensures.value in
    let table = c.args.table.now in let book = c.args.book.now in let kept = c.args.kept.now in
    kept_told table book final c.args.links.now c.args.slot.now kept c.requires.kept c.in-Ok.steps.items c.in-Ok.ensures.steps c.in-Ok.ensures.follow
    old between new
    (subst (λ (m : List Fact). IsEndTold table book m c.args.slot.now.duals.values kept.target kept.end between new) c.in-Ok.ensures.facts
    c.in_default-tell_end.ensures.told)
    (subst (λ (fs : List Fact). Notes old between (step_events fs)) is c.in_default.ensures.noted) c.in_default-tell_end.ensures.later low
