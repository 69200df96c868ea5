use Rattle.std.proofs.Common.{arith, refl, slice_index_or}
use Rattle.dive_heuristic.proofs.Tallies.{note_more}
use Rattle.dive_heuristic.proofs.tally.note_route.Goals as goal

pub loop-b-preserved : goal.loop-b-preserved
loop-b-preserved c =
    note_more c.flown_with_one_more.ensures c.args.tally.now c.loop-b.tally c.args.route.now c.loop-b.b-index (slice_index_or c.args.route.now c.loop-b.b-index 0)
    c.one_more.result c.loop-b-test.true refl (omega (arith, c.requires c.loop-b.b-index 0 c.loop-b-test.true, c.loop-b.invariant.count)) c.one_more.ensures c.loop-b.invariant
