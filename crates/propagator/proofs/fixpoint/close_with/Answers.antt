use Rattle.std.proofs.Common.{◌≡◌, ◌∙◌, ℕ, Bool, List, ap, rules}
use Rattle.propagator.specs.inside.Suspects.{is_suspect}
use Rattle.propagator.proofs.InTurn.{grow_both}
use Rattle.propagator.proofs.MovedFloors.{all_both}
use Rattle.propagator.proofs.StillGoing.{few_seen, others_alive}
use Rattle.propagator.proofs.OnlyCarriers.{on_ok}
use Rattle.propagator.proofs.Shut.{shut_at_end}
use Rattle.propagator.proofs.fixpoint.close_with.Goals as goal

pub returns-in_err-carry_all-clause-grows : goal.returns-in_err-carry_all-clause-grows
returns-in_err-carry_all-clause-grows c =
    grow_both c.args.book.now c.args.marks.now.facts c.settle_all.new.marks.facts c.carry_all.new.marks.facts
    c.args.facts.now.items c.settle_all.new.facts.items c.carry_all.new.facts.items c.settle_all.ensures.grows c.carry_all.ensures.grows

-- first what follows by floors, then the carriers, then the connections
pub returns-clause-grows : goal.returns-clause-grows
returns-clause-grows c =
    grow_both c.args.book.now c.args.marks.now.facts c.settle_all.new.marks.facts c.cut_links.new.marks.facts
    c.args.facts.now.items c.settle_all.new.facts.items c.cut_links.new.facts.items c.settle_all.ensures.grows
    (grow_both c.args.book.now c.settle_all.new.marks.facts c.carry_all.new.marks.facts c.cut_links.new.marks.facts
    c.settle_all.new.facts.items c.carry_all.new.facts.items c.cut_links.new.facts.items c.carry_all.ensures.grows c.cut_links.ensures.grows)

pub returns-clause-shut : goal.returns-clause-shut
returns-clause-shut c =
    on_ok c.cut_links.result
    (shut_at_end c.args.book.now c.carry_all.new.marks.facts c.cut_links.new.marks.facts c.carry_all.new.rows
    c.in_ok-carry_all.ensures.stand c.in_ok-carry_all.ensures.none c.cut_links.ensures.nothing)
    c.cut_links.ensures.cut

pub returns-clause-floors : goal.returns-clause-floors
returns-clause-floors c = on_ok c.cut_links.result (λ _. c.cut_links.ensures.floors) c.cut_links.ensures.cut

-- all facts that are new by then
pub suspect_links-requires-clause-seen : goal.suspect_links-requires-clause-seen
suspect_links-requires-clause-seen c =
    let grown = grow_both c.args.book.now c.args.marks.now.facts c.settle_all.new.marks.facts c.carry_all.new.marks.facts
    c.args.facts.now.items c.settle_all.new.facts.items c.carry_all.new.facts.items c.settle_all.ensures.grows c.carry_all.ensures.grows in
    few_seen c.args.book.now c.args.marks.now.facts grown.added c.carry_all.new.marks.facts c.args.rows.now c.args.seen c.requires.seen grown.marks

pub cut_links-requires-clause-others : goal.cut_links-requires-clause-others
cut_links-requires-clause-others c =
    let work = c.suspect_links.new.work in
    let leave : work.leave.items ≡ c.deref.result.now = search rules in
    let arrive : work.arrive.items ≡ c.deref-2.result.now = search rules in
    let pass : work.pass.items ≡ c.deref-3.result.now = search rules in
    let grown = grow_both c.args.book.now c.args.marks.now.facts c.settle_all.new.marks.facts c.carry_all.new.marks.facts
    c.args.facts.now.items c.settle_all.new.facts.items c.carry_all.new.facts.items c.settle_all.ensures.grows c.carry_all.ensures.grows in
    λ a b off. others_alive c.alive_decides.ensures c.usable_decides.ensures c.limits_decide.ensures c.args.book.now c.args.marks.now.facts grown.added
    c.carry_all.new.marks.facts c.args.seen c.args.rows.now c.carry_all.new.rows _ c.carry_all.new.work.leave.items
    work.leave.items work.arrive.items work.pass.items c.requires.seen grown.marks
    (all_both _ c.settle_all.new.work.leave.items c.carry_all.new.work.leave.items c.args.rows.now c.settle_all.new.rows c.carry_all.new.rows
    c.settle_all.ensures.moves c.carry_all.ensures.moves) c.in_ok-carry_all.ensures.stand c.suspect_links.ensures.noted c.suspect_links.ensures.work.leave a b
    (ap (λ (flags : List Bool). is_suspect flags work.arrive.items work.pass.items a b) leave
    ∙ ap (λ (flags : List Bool). is_suspect c.deref.result.now flags work.pass.items a b) arrive
    ∙ ap (λ (least : List ℕ). is_suspect c.deref.result.now c.deref-2.result.now least a b) pass ∙ off)
