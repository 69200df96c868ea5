use Rattle.std.proofs.Common.{◌<◌, ℕ, ap, arith, below_more, length}
use Rattle.tail_book.specs.Seen.{BookSeen}
use Rattle.tail_book.specs.Lookup.{activities}
use Rattle.branch_marks.specs.Following.{IsDeadConnection}
use Rattle.propagator.proofs.InTurn.{grow_both}
use Rattle.propagator.proofs.DeadLinks.{shut_kept, cut_more, never_new}
use Rattle.propagator.proofs.dead_links.cut_links.Goals as goal

pub cut_links_of-requires-clause-shut : goal.cut_links_of-requires-clause-shut
cut_links_of-requires-clause-shut c =
    shut_kept c.args.book.now c.args.marks.now.facts c.loop-a.marks.facts c.requires.shut c.loop-a.invariant.0.nothing

pub returns-in_err-cut_links_of-clause-grows : goal.returns-in_err-cut_links_of-clause-grows
returns-in_err-cut_links_of-clause-grows c =
    grow_both c.args.book.now c.args.marks.now.facts c.loop-a.marks.facts c.cut_links_of.new.marks.facts
    c.args.facts.now.items c.loop-a.facts.items c.cut_links_of.new.facts.items c.loop-a.invariant.0.grows c.cut_links_of.ensures.grows

pub loop-a-preserved : goal.loop-a-preserved
loop-a-preserved c = (
  cut_more c.args.book.now c.args.marks.now c.loop-a.marks c.cut_links_of.new.marks c.args.facts.now.items c.loop-a.facts.items c.cut_links_of.new.facts.items
      c.args.rows.now c.loop-a.invariant.0 c.cut_links_of.ensures.marks c.cut_links_of.ensures.grows c.cut_links_of.ensures.floors c.cut_links_of.ensures.nothing,
  below_more (λ (a : ℕ). (b : ℕ) → ¬ IsDeadConnection c.args.book.now c.cut_links_of.new.marks.facts a b) c.loop-a.a
      (λ a lt b. never_new c.args.book.now c.loop-a.marks.facts c.cut_links_of.new.marks.facts a b c.cut_links_of.ensures.nothing (c.loop-a.invariant.1 a lt b))
      c.in_ok-cut_links_of.ensures.cut,
)

pub returns-clause-cut : goal.returns-clause-cut
returns-clause-cut c a b dead =
    let lt : a < activities c.args.book.now = dead.of_book.0 in
    let within : a < c.loop-a.a = omega (arith, lt, ap (λ (b : BookSeen). length b.activities) c.book.view_is) in
    c.loop-a.invariant.1 a within b dead

pub cut_links_of-requires-clause-others : goal.cut_links_of-requires-clause-others
cut_links_of-requires-clause-others c = λ b off.
    never_new c.args.book.now c.args.marks.now.facts c.loop-a.marks.facts c.loop-a.a b c.loop-a.invariant.0.nothing (c.requires.others c.loop-a.a b off)
