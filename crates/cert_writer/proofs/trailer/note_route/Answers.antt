use Rattle.std.proofs.Common.{arith}
use Rattle.cert_writer.proofs.FlierLemmas.{left-more, left-none}
use Rattle.cert_writer.proofs.trailer.note_route.Goals as goal

pub loop-a-preserved : goal.loop-a-preserved
loop-a-preserved c =
    left-more c.args.route.now c.loop-a.a-index c.args.k c.args.nobody c.args.fliers.now c.loop-a.fliers c.note.new.fliers c.loop-a-test.true c.note.ensures
    c.loop-a.invariant

pub returns : goal.returns
returns c = left-none c.args.route.now c.loop-a.a-index c.args.k c.args.nobody c.args.fliers.now c.loop-a.fliers (omega (arith, c.loop-a-test.false)) c.loop-a.invariant
