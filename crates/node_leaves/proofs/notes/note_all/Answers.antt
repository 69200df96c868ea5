use Rattle.std.proofs.Common.{◌+◌, List, [], ◌∷◌, ◌++◌, subst, take, drop}
use Rattle.branch_marks.specs.declared.event.Event.{Event}
use Rattle.branch_marks.specs.TreeLog.{NotesFront}
use Rattle.node_leaves.proofs.Cuts.{front_then, front_first}
use Rattle.node_leaves.proofs.Lists.{whole_at}
use Rattle.node_leaves.proofs.notes.note_all.Goals as goal

-- the events before are told, and the cut is in this one
pub returns-in-Err-clause-cut : goal.returns-in-Err-clause-cut
returns-in-Err-clause-cut g c =
    let due = c.args.events.now in let i = c.loop-i.i in let event = c.index-events-i.result in
    let old = g.L.TreeLog.shows c.args.log.now in let between = g.L.TreeLog.shows c.loop-i.log in let new = g.L.TreeLog.shows c.note_one.new.log in
    let cut = front_then old between new (take i due) (event ∷ []) c.in-Err.ensures.later c.loop-i.invariant.noted c.in-Err.ensures.cut in
    subst (λ (es : List Event). NotesFront old new es) (whole_at due i event c.loop-i-test.true c.index-events-i.is)
    (front_first old new (take i due ++ event ∷ []) (drop (i + 1) due) cut)
