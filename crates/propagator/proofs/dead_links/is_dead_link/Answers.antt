use Rattle.std.proofs.Common.{◌<◌, ◌+◌, ◌∙◌, ap, arith, length, false}
use Rattle.tail_book.specs.Seen.{BookSeen}
use Rattle.tail_book.specs.Lookup.{aircraft}
use Rattle.propagator.proofs.DeadLinks.{asked_still, asked_now}
use Rattle.propagator.proofs.dead_links.is_dead_link.Goals as goal
use Rattle.propagator.proofs.dead_links.is_dead_link.Goals.{then-used, else-used}

pub loop-k-init : goal.loop-k-init
loop-k-init c =
    let asking = c.asking_passes_over.ensures c.args.book.now c.args.marks.now.facts c.args.a c.args.b in
    asking.over 0 c.next_alive-k.result false c.next_alive-k.ensures.none asking.nobody

pub loop-k-preserved : goal.loop-k-preserved
loop-k-preserved c =
    let book = c.args.book.now in
    let facts = c.args.marks.now.facts in
    let lt : c.loop-k.k < aircraft book = omega (arith, ap (λ (b : BookSeen). length b.tails) c.book.view_is, c.loop-k-test.true) in
    let cannot = c.goes_over.ensures.cannot c.if-goes_over.false in
    (c.asking_passes_over.ensures book facts c.args.a c.args.b).over (c.loop-k.k + 1) c.next_alive-k-in-loop-k.result c.if-used.used c.next_alive-k-in-loop-k.ensures.none
    (elim c.if-used.branch [
      | then-used w ↦ asked_still book facts c.args.a c.args.b c.loop-k.k c.loop-k.used c.if-used.used c.loop-k.invariant cannot w.if-used.true (w.used-is ∙ w.if-used.true)
      | else-used w ↦ (asked_now book facts c.args.a c.args.b c.loop-k.k c.loop-k.used c.if-used.used w.usable-used.result c.loop-k.invariant lt cannot w.if-used.false
          w.usable-used.ensures.means.0 w.usable-used.ensures.means.1 w.used-is)
    ])
