use Rattle.std.proofs.Common.{◌∙◌, List, ap, refl, sym, subst, false}
use Rattle.std.proofs.lemmas.Bool.{both_ways}
use Rattle.connection_net.specs.Seen.{NetSeen}
use Rattle.connection_net.specs.Net.{predecessors_in}
use Rattle.branch_marks.specs.declared.fact.Fact.{Fact}
use Rattle.branch_marks.specs.Floors.{floors}
use Rattle.floor_rows.specs.inside.FloorRow.{FloorRowSeen}
use Rattle.propagator.specs.inside.Touching.{IsAskedBelow}
use Rattle.propagator.proofs.SetFlags.{set_by}
use Rattle.propagator.proofs.DeadEnds.{end_floors, bar_asked, not_asked}
use Rattle.propagator.proofs.dead_ends.bar_if_dead.Goals as goal

pub returns-then-not-is_dead-clause-asked : goal.returns-then-not-is_dead-clause-asked
returns-then-not-is_dead-clause-asked c =
    not_asked c.args.book.now c.args.marks.now.facts c.args.k c.args.a c.args.ask.now (λ d. both_ways false refl (c.if-not-is_dead.ensures.1 d)) c.requires.asked

pub returns-clause-floors : goal.returns-clause-floors
returns-clause-floors c =
    ap (λ (row : FloorRowSeen). row.floors) c.clear.ensures
    ∙ end_floors c.bars_take_one_floor.ensures c.floors_count.ensures c.args.book.now c.args.marks.now.facts c.args.k c.args.a c.requires.activity
    (c.if-not-is_dead.ensures.0 refl) c.args.row.now.floors c.requires.floors
    ∙ ap (λ (marks : List Fact). floors c.args.book.now marks c.args.k) (sym c.in_ok-add_bar.ensures.added)

pub returns-clause-asked : goal.returns-clause-asked
returns-clause-asked c =
    subst (λ (marks : List Fact). IsAskedBelow c.args.book.now marks c.args.k c.args.a c.set_all.new.flags) (sym c.in_ok-add_bar.ensures.added)
    (bar_asked c.bars_kill_nothing_later.ensures c.bars_kill_predecessors.ensures c.alive_decides.ensures c.args.book.now c.every_book_is_sound.ensures
    c.args.marks.now.facts c.args.k c.args.a c.args.ask.now c.set_all.new.flags (c.if-not-is_dead.ensures.0 refl)
    (set_by c.predecessors.result.now _ _ _ (c.predecessors.ensures ∙ ap (λ (net : NetSeen). predecessors_in net c.args.a) c.requires.net) c.set_all.ensures)
    c.requires.asked)
