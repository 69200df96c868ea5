use Rattle.std.proofs.Common.{refl}
use Rattle.node_leaves.specs.NodeEvents.{step_events}
use Rattle.node_leaves.proofs.Cuts.{later_none}
use Rattle.best_first.specs.inside.Links.{facts_at}
use Rattle.best_first.proofs.EndsTold.{notes_nothing, untold_end}
use Rattle.best_first.proofs.SlotsTold.{duals_in_box, end_kept, kept_told, own, own_closed, own_follow}
use Rattle.best_first.proofs.node_telling.tell_node.Goals as goal

-- nobody is told of the node
pub returns-clause-told : goal.returns-clause-told
returns-clause-told g c = λ final low.
    let table = c.args.table.now in let book = c.args.book.now in let links = c.args.links.now in let slot = c.args.slot.now in let kept = c.args.kept.now in
    let some = c.requires.kept in let is = c.requires.slot in let log = g.L.TreeLog.shows c.args.log.now in
    let nothing = c.wants_events.ensures c.if-wants_events.false in
    let steps = (own table book final links slot kept some is).steps in
    let end = untold_end c.low_bounds_are_shown.ensures c.stuck_is_shown.ensures table book c.every_book_is_sound.ensures (facts_at links kept.last)
    slot.duals.values (duals_in_box table book final links slot kept some is) kept.target log nothing c.sums_never_fall.ensures kept.end
    (end_kept table book final links slot kept some is (facts_at links kept.last) refl) in
    kept_told table book final links slot kept some steps (own_closed table book final links slot kept some is)
    (own_follow table book final links slot kept some is) log log log end (notes_nothing log (step_events steps) nothing) (later_none log) low
