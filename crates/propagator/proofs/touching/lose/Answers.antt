use Rattle.std.proofs.Common.{◌<◌, ◌∙◌, ap, arith, sym, length}
use Rattle.connection_net.specs.Seen.{NetSeen}
use Rattle.connection_net.specs.Net.{successors_in, predecessors_in}
use Rattle.floor_rows.proofs.DeadByFloors.{none_of}
use Rattle.floor_rows.specs.inside.FloorRow.{floor_in}
use Rattle.propagator.proofs.SetFlags.{set_by, cleared}
use Rattle.propagator.proofs.FactsTouch.{lost_before, lost_now}
use Rattle.propagator.proofs.MovedFloors.{loses_none, loses_one}
use Rattle.propagator.proofs.touching.lose.Goals as goal

pub returns-then-not-ask-c-clause-touches : goal.returns-then-not-ask-c-clause-touches
returns-then-not-ask-c-clause-touches c marks fact loses was =
    lost_before c.brought_tells.ensures c.usable_decides.ensures c.may_end_decides.ensures c.args.book.now marks fact c.args.k c.args.c loses c.args.row.now c.args.due.now c.args.ask.now
    c.requires.activity (none_of (floor_in c.args.row.now c.args.c) (sym c.if-not-has.ensures)) c.if-not-ask-c.true was

pub returns-clause-touches : goal.returns-clause-touches
returns-clause-touches c marks fact loses was =
    let room : c.args.c < length c.args.row.now.floors = omega (arith, c.requires.activity, c.requires.row.count) in
    lost_now c.brought_tells.ensures c.usable_decides.ensures c.may_end_decides.ensures c.args.book.now marks fact c.args.k c.args.c loses
    c.successors_are_links.ensures c.predecessors_are_links.ensures c.args.row.now c.clear.new.self c.args.due.now c.set_all.new.flags c.args.ask.now c.set_all-2.new.flags
    (cleared c.args.row.now c.clear.new.self c.args.c room c.clear.ensures)
    (set_by c.successors.result.now _ _ _ (c.successors.ensures ∙ ap (λ (net : NetSeen). successors_in net c.args.c) c.requires.net) c.set_all.ensures)
    (set_by c.predecessors.result.now _ _ _ (c.predecessors.ensures ∙ ap (λ (net : NetSeen). predecessors_in net c.args.c) c.requires.net) c.set_all-2.ensures)
    was

pub returns-then-not-ask-c-clause-loses : goal.returns-then-not-ask-c-clause-loses
returns-then-not-ask-c-clause-loses c = loses_none c.args.row.now

pub returns-clause-loses : goal.returns-clause-loses
returns-clause-loses c =
    let room : c.args.c < length c.args.row.now.floors = omega (arith, c.requires.activity, c.requires.row.count) in
    loses_one c.args.row.now c.clear.new.self c.args.c (cleared c.args.row.now c.clear.new.self c.args.c room c.clear.ensures)
