use Rattle.std.proofs.Common.{◌<◌, ◌∙◌, ◌++◌, List, ap, sym, subst}
use Rattle.branch_marks.specs.declared.fact.Fact.{Fact}
use Rattle.propagator.specs.inside.Unnamed.{unnamed}
use Rattle.propagator.proofs.InTurn.{grow_both}
use Rattle.propagator.proofs.MovedFloors.{all_none}
use Rattle.propagator.proofs.OnlyCarriers.{on_ok, carried, fewer_unnamed}
use Rattle.propagator.proofs.carriers.carry.Goals as goal

pub returns-clause-grows : goal.returns-clause-grows
returns-clause-grows c =
    grow_both c.args.book.now c.args.marks.now.facts c.add_next.new.marks.facts c.settle_at.new.marks.facts
    c.args.facts.now.items c.add_next.new.facts.items c.settle_at.new.facts.items c.add_next.ensures.grows c.settle_at.ensures.grows

pub returns-clause-stand : goal.returns-clause-stand
returns-clause-stand c =
    on_ok c.settle_at.result
    (carried c.same_floors.ensures c.same_dead.ensures c.musts_leave_others.ensures c.alive_decides.ensures c.args.book.now
    c.args.marks.now.facts c.add_next.new.marks.facts c.settle_at.new.marks.facts c.args.k c.args.a c.args.rows.now c.settle_at.new.rows
    c.requires.carrier c.in_ok-add_next.ensures.added c.settle_at.ensures.acts c.settle_at.ensures.others c.requires.stand)
    c.settle_at.ensures.stands

-- what was added then stands behind the Must
pub returns-clause-fewer : goal.returns-clause-fewer
returns-clause-fewer c =
    let grown = c.settle_at.ensures.grows in
    let less = fewer_unnamed c.has_fact_decides.ensures c.args.book.now c.args.marks.now.facts grown.added c.args.k c.args.a c.requires.carrier in
    on_ok c.settle_at.result
    (λ _. subst (λ (marks : List Fact). unnamed c.args.book.now marks < unnamed c.args.book.now c.args.marks.now.facts)
    (sym (grown.marks ∙ ap (λ (marks : List Fact). marks ++ grown.added) c.in_ok-add_next.ensures.added)) less)
    c.settle_at.ensures.stands

pub returns-in_err-add_next-clause-moves : goal.returns-in_err-add_next-clause-moves
returns-in_err-add_next-clause-moves c = all_none c.args.work.now.leave.items c.args.rows.now
