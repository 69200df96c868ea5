use Rattle.std.proofs.Common.{◌≡◌, ◌∙◌, List, subst}
use Rattle.branch_marks.specs.declared.event.Event.{Event}
use Rattle.branch_marks.specs.TreeLog.{NotesFront}
use Rattle.pricing.specs.Rows.{labels_of}
use Rattle.node_leaves.specs.Node.{Stuck}
use Rattle.branch_marks.specs.TreeEvents.{stuck_events}
use Rattle.node_leaves.specs.inside.Leaf.{Whole}
use Rattle.node_leaves.proofs.covers.tell_stuck.Goals as goal

-- the cut is in the leaf, which is shown
pub returns-in-Err-note_all-clause-cut : goal.returns-in-Err-note_all-clause-cut
returns-in-Err-note_all-clause-cut g c =
    let family = labels_of c.stuck_of.new.prices.store in
    let told : c.deref.result.now ≡ stuck_events c.args.k family = c.deref.ensures.value ∙ c.in-Ok-stuck_of.ensures.events in
    record {
      part = Whole (Stuck c.args.k family);
      shown = c.in-Ok-stuck_of.ensures.shown;
      front = subst (λ (es : List Event). NotesFront (g.L.TreeLog.shows c.args.log.now) (g.L.TreeLog.shows c.note_all.new.log) es) told c.in-Err-note_all.ensures.cut;
    }
