use Rattle.std.proofs.Common.{◌∙◌, ap}
use Rattle.connection_net.specs.Seen.{NetSeen}
use Rattle.connection_net.specs.Net.{successors_in, predecessors_in}
use Rattle.propagator.proofs.SetFlags.{set_by}
use Rattle.propagator.proofs.FactsTouch.{tie_touches}
use Rattle.branch_marks.specs.declared.fact.Fact.TheVariants.{Tie}
use Rattle.propagator.specs.inside.Touching.{Touches}
use Rattle.propagator.proofs.touching.touch_tie.Goals as goal

pub returns : goal.returns
returns c =
    let touches : Touches c.args.book.now c.args.k (Tie c.args.c c.args.d) c.args.row.now c.args.due.now c.args.ask.now c.args.row.now c.set.new.flags c.set-2.new.flags = λ marks was.
    tie_touches c.brought_tells.ensures c.usable_decides.ensures c.may_end_decides.ensures c.args.book.now marks c.args.k c.args.c c.args.d
    c.successors_are_links.ensures c.predecessors_are_links.ensures c.args.row.now
    c.args.due.now c.set_all.new.flags c.set.new.flags c.args.ask.now c.set_all-2.new.flags c.set-2.new.flags
    (set_by c.successors.result.now _ _ _ (c.successors.ensures ∙ ap (λ (net : NetSeen). successors_in net c.args.c) c.requires.net) c.set_all.ensures)
    c.set.ensures
    (set_by c.predecessors.result.now _ _ _ (c.predecessors.ensures ∙ ap (λ (net : NetSeen). predecessors_in net c.args.d) c.requires.net) c.set_all-2.ensures)
    c.set-2.ensures was in
    touches
