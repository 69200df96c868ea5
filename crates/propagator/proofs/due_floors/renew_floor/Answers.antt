use Rattle.std.proofs.Common.{◌∙◌, ◌+◌, ap, arith, refl}
use Rattle.connection_net.specs.Seen.{NetSeen}
use Rattle.connection_net.specs.Net.{successors_in}
use Rattle.propagator.proofs.SetFlags.{set_by}
use Rattle.propagator.proofs.RenewedFloors.{renew_not, renew_same, renew_other}
use Rattle.propagator.proofs.MovedFloors.{moves_none, moves_same, moves_one}
use Rattle.propagator.proofs.CutOffs.{cut_off_later}
use Rattle.propagator.proofs.LowRows.{set_low}
use Rattle.propagator.proofs.due_floors.renew_floor.Goals as goal

pub returns-then-not-due-b-clause-renewing : goal.returns-then-not-due-b-clause-renewing
returns-then-not-due-b-clause-renewing c =
    renew_not c.args.book.now c.args.marks.now.facts c.args.k c.args.b c.brought_tells.ensures c.floors_are_least.ensures c.args.row.now c.args.due.now c.args.ask.now
    c.requires.activity c.if-not-due-b.true c.requires.renewing

pub returns-then-not-rewrite-clause-renewing : goal.returns-then-not-rewrite-clause-renewing
returns-then-not-rewrite-clause-renewing c =
    renew_same c.args.book.now c.args.marks.now.facts c.args.k c.args.b c.brought_tells.ensures c.usable_decides.ensures c.may_end_decides.ensures c.args.row.now c.rewrite.new.row
    c.args.due.now c.args.ask.now c.if-not-rewrite.ensures.set (c.if-not-rewrite.ensures.same refl) c.requires.renewing

pub returns-clause-renewing : goal.returns-clause-renewing
returns-clause-renewing c =
    renew_other c.args.book.now c.args.marks.now.facts c.args.k c.args.b c.brought_tells.ensures c.successors_are_links.ensures c.predecessors_are_links.ensures
    c.usable_decides.ensures c.may_end_decides.ensures c.args.row.now c.rewrite.new.row c.args.due.now c.set_all.new.flags c.args.ask.now c.set.new.flags
    c.if-not-due-b.false c.if-not-rewrite.ensures.set
    (set_by c.successors.result.now _ _ _ (c.successors.ensures ∙ ap (λ (net : NetSeen). successors_in net c.args.b) c.requires.net) c.set_all.ensures)
    c.set.ensures c.requires.renewing

pub returns-then-not-due-b-clause-moves : goal.returns-then-not-due-b-clause-moves
returns-then-not-due-b-clause-moves c = moves_none c.args.moved.now c.args.row.now

pub returns-then-not-rewrite-clause-moves : goal.returns-then-not-rewrite-clause-moves
returns-then-not-rewrite-clause-moves c =
    moves_same c.args.moved.now c.args.b _ c.args.row.now c.rewrite.new.row c.if-not-rewrite.ensures.set (c.if-not-rewrite.ensures.same refl)

pub returns-clause-moves : goal.returns-clause-moves
returns-clause-moves c = moves_one c.args.moved.now c.set-2.new.flags c.args.b _ c.args.row.now c.rewrite.new.row c.if-not-rewrite.ensures.set c.set-2.ensures

pub returns-then-not-rewrite-clause-low : goal.returns-then-not-rewrite-clause-low
returns-then-not-rewrite-clause-low c =
    set_low c.args.book.now c.args.marks.now.facts c.args.k c.each_at_most_itself.ensures c.args.b c.args.row.now c.rewrite.new.row c.if-not-rewrite.ensures.set c.requires.low

pub returns-clause-low : goal.returns-clause-low
returns-clause-low c =
    set_low c.args.book.now c.args.marks.now.facts c.args.k c.each_at_most_itself.ensures c.args.b c.args.row.now c.rewrite.new.row c.if-not-rewrite.ensures.set c.requires.low

pub returns-then-not-due-b-clause-after : goal.returns-then-not-due-b-clause-after
returns-then-not-due-b-clause-after c = cut_off_later c.args.book.now c.args.marks.now.facts c.args.k c.args.b (c.args.b + 1) c.args.after.now (omega arith) c.requires.after

pub returns-then-not-rewrite-clause-after : goal.returns-then-not-rewrite-clause-after
returns-then-not-rewrite-clause-after c =
    cut_off_later c.args.book.now c.args.marks.now.facts c.args.k c.args.b (c.args.b + 1) c.last_must.result (omega arith) c.last_must.ensures

pub returns-clause-after : goal.returns-clause-after
returns-clause-after c = cut_off_later c.args.book.now c.args.marks.now.facts c.args.k c.args.b (c.args.b + 1) c.last_must.result (omega arith) c.last_must.ensures
