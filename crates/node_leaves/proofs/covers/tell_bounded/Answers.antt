use Rattle.std.proofs.Common.{◌≡◌, ◌∙◌, List, [], ◌∷◌, arith, subst}
use Rattle.branch_marks.specs.declared.event.Event.{Event}
use Rattle.branch_marks.specs.declared.event.Event.TheVariants as told
use Rattle.branch_marks.specs.TreeLog.{Notes, NotesFront}
use Rattle.branch_marks.specs.TreeEvents.{dual_events, cover_events}
use Rattle.node_leaves.specs.inside.Leaf.{Begun}
use Rattle.node_leaves.proofs.Cuts.{front_first, front_then}
use Rattle.node_leaves.proofs.covers.tell_bounded.Goals as goal

-- the cut is in the leaf's own line or in its duals
pub returns-in-Err-note_all-clause-cut : goal.returns-in-Err-note_all-clause-cut
returns-in-Err-note_all-clause-cut g c =
    let duals = c.args.duals.now.values in
    let old = g.L.TreeLog.shows c.args.log.now in let new = g.L.TreeLog.shows c.note_all.new.log in
    let head : List Event = told.Bound ∷ dual_events 0 duals in
    let is : c.deref.result.now ≡ head = c.deref.ensures.value ∙ c.in-Ok.ensures.events in
    record {
      part = Begun duals [];
      shown = (c.requires.duals, record { few = omega arith; each = λ k less. absurd (omega (arith, less)) });
      front = front_first old new head (cover_events 0 []) (subst (λ (es : List Event). NotesFront old new es) is c.in-Err-note_all.ensures.cut);
    }

-- or in its covers, of which those that were begun are shown
pub returns-in-Err-note_covers-clause-cut : goal.returns-in-Err-note_covers-clause-cut
returns-in-Err-note_covers-clause-cut g c =
    let duals = c.args.duals.now.values in
    let old = g.L.TreeLog.shows c.args.log.now in let between = g.L.TreeLog.shows c.note_all.new.log in let new = g.L.TreeLog.shows c.note_covers.new.log in
    let head : List Event = told.Bound ∷ dual_events 0 duals in
    let is : c.deref.result.now ≡ head = c.deref.ensures.value ∙ c.in-Ok.ensures.events in
    let cut = c.in-Err-note_covers.ensures.cut in
    record {
      part = Begun duals cut.covers;
      shown = (c.requires.duals, cut.shown);
      front = front_then old between new head (cover_events 0 cut.covers) c.in-Err-note_covers.ensures.later
          (subst (λ (es : List Event). Notes old between es) is c.in_default.ensures.noted) cut.front;
    }
