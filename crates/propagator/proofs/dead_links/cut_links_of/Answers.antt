use Rattle.std.proofs.Common.{◌∙◌, ℕ, ap, arith, below_more, get_or}
use Rattle.branch_marks.specs.Following.{IsDeadConnection}
use Rattle.connection_net.specs.Net.{successors_in}
use Rattle.connection_net.specs.Seen.{NetSeen}
use Rattle.propagator.proofs.InTurn.{grow_both}
use Rattle.propagator.proofs.DeadLinks.{shut_kept, cut_more, never_new, none_dead}
use Rattle.propagator.proofs.dead_links.cut_links_of.Goals as goal

pub cut_suspect-requires-clause-shut : goal.cut_suspect-requires-clause-shut
cut_suspect-requires-clause-shut c =
    shut_kept c.args.book.now c.args.marks.now.facts c.loop-b.marks.facts c.requires.shut c.loop-b.invariant.0.nothing

pub returns-in_err-cut_suspect-clause-grows : goal.returns-in_err-cut_suspect-clause-grows
returns-in_err-cut_suspect-clause-grows c =
    grow_both c.args.book.now c.args.marks.now.facts c.loop-b.marks.facts c.cut_suspect.new.marks.facts
    c.args.facts.now.items c.loop-b.facts.items c.cut_suspect.new.facts.items c.loop-b.invariant.0.grows c.cut_suspect.ensures.grows

pub loop-b-preserved : goal.loop-b-preserved
loop-b-preserved c =
    let items = c.successors-b-items.result.now in (
      cut_more c.args.book.now c.args.marks.now c.loop-b.marks c.cut_suspect.new.marks c.args.facts.now.items c.loop-b.facts.items c.cut_suspect.new.facts.items
          c.args.rows.now c.loop-b.invariant.0 c.cut_suspect.ensures.marks c.cut_suspect.ensures.grows c.cut_suspect.ensures.floors c.cut_suspect.ensures.nothing,
      below_more (λ (i : ℕ). ¬ IsDeadConnection c.args.book.now c.cut_suspect.new.marks.facts c.args.a (get_or items i 0)) c.loop-b.b-index
          (λ i lt. never_new c.args.book.now c.loop-b.marks.facts c.cut_suspect.new.marks.facts c.args.a (get_or items i 0) c.cut_suspect.ensures.nothing (c.loop-b.invariant.1 i lt))
          c.in_ok-cut_suspect.ensures.cut,
    )

pub returns-clause-cut : goal.returns-clause-cut
returns-clause-cut c =
    let items = c.successors-b-items.result.now in
    none_dead c.rows_are_their_places.ensures c.successors_are_links.ensures c.args.book.now c.loop-b.marks.facts c.args.a items
    (c.successors-b-items.ensures ∙ ap (λ (net : NetSeen). successors_in net c.args.a) c.requires.net)
    (λ i lt. c.loop-b.invariant.1 i (omega (arith, lt)))

pub cut_suspect-requires-clause-others : goal.cut_suspect-requires-clause-others
cut_suspect-requires-clause-others c = λ off.
    never_new c.args.book.now c.args.marks.now.facts c.loop-b.marks.facts c.args.a (get_or c.successors-b-items.result.now c.loop-b.b-index 0) c.loop-b.invariant.0.nothing
    (c.requires.others (get_or c.successors-b-items.result.now c.loop-b.b-index 0) off)
