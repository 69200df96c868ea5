use Rattle.std.proofs.Common.{◌<◌, ◌+◌, ap, arith, length, refl, sym, subst, false}
use Rattle.std.proofs.lemmas.Bool.{both_ways}
use Rattle.tail_book.specs.Seen.{BookSeen}
use Rattle.tail_book.specs.Lookup.{aircraft}
use Rattle.cert_checker.specs.declared.kept_floors.KeptRows.{KeptRows}
use Rattle.cert_checker.specs.inside.KeptFloors.{AreAllUnder}
use Rattle.cert_checker.proofs.FollowingTold.{asked_used, asked_unused}
use Rattle.cert_checker.proofs.node_tests.is_dead_connection.Goals as goal
use Rattle.cert_checker.proofs.node_tests.is_dead_connection.Goals.{then-usable+else-goes_over, else-usable}

pub loop-k-init : goal.loop-k-init
loop-k-init c =
    let asking = c.asking_passes_over.ensures c.args.book.now c.args.marks.now.facts c.args.a c.args.b in
    (asking.over 0 c.next_alive-k.result false c.next_alive-k.ensures.none asking.nobody, c.requires.kept)

pub returns-then-goes_over-clause-means : goal.returns-then-goes_over-clause-means
returns-then-goes_over-clause-means c =
    ((λ never. absurd (both_ways false refl never)), (λ dead. absurd (c.goes_over.ensures.goes c.if-goes_over.true dead)))

pub loop-k-preserved : goal.loop-k-preserved
loop-k-preserved c =
    let book = c.args.book.now in
    let facts = c.args.marks.now.facts in
    let lt : c.loop-k.k < aircraft book = omega (arith, ap (λ (b : BookSeen). length b.tails) c.book.view_is, c.loop-k-test.true) in
    let over = (c.asking_passes_over.ensures book facts c.args.a c.args.b).over (c.loop-k.k + 1) c.next_alive-k-in-loop-k.result c.if-usable.used c.next_alive-k-in-loop-k.ensures.none in
    elim c.if-usable.branch [
      | then-usable+else-goes_over w ↦ (
          let link = c.usable.ensures.means.0 w.if-usable.true in (
            over (asked_used book facts c.args.a c.args.b c.loop-k.k c.loop-k.used c.if-usable.used c.loop-k.invariant.0 lt link
                (w.goes_over.ensures.cannot w.if-goes_over.false link) w.used-is),
            subst (λ (kept : KeptRows). AreAllUnder book facts kept.rows.items) (sym w.kept-is) w.goes_over.ensures.kept,
          ))
      | else-usable w ↦ (
        over (asked_unused book facts c.args.a c.args.b c.loop-k.k c.loop-k.used c.if-usable.used c.loop-k.invariant.0
            (λ link. both_ways c.usable.result w.if-usable.false (c.usable.ensures.means.1 link)) w.used-is),
        subst (λ (kept : KeptRows). AreAllUnder book facts kept.rows.items) (sym w.kept-is) c.loop-k.invariant.1,
      )
    ]
