use Rattle.std.proofs.Common.{◌<◌, arith}
use Rattle.tail_book.specs.Lookup.{activities}
use Rattle.propagator.proofs.due_floors.last_must.Goals as goal

-- the next one is a Must before b, so what lies below it is cut off
pub loop-c-preserved : goal.loop-c-preserved
loop-c-preserved c =
    let book = c.args.book.now in
    let before : c.loop-c.c < c.args.b = omega (arith, c.loop-c-test.true) in
    let inside : c.loop-c.c < activities book = omega (arith, before, c.requires.activity) in
    let are = c.requires.marks.activities_are in
    let last = c.next_must-c-in-loop-c.ensures.end in (
      c.musts_cut_off.ensures book c.args.marks.now.facts c.args.k c.args.b c.loop-c.c (c.loop-c.invariant.1 inside) before,
      (λ lt. c.next_must-c-in-loop-c.ensures.found (omega (arith, lt, are))),
      omega (arith, last, are),
    )
