use Rattle.std.proofs.Common.{arith}
use Rattle.cert_writer.proofs.FlierLemmas.{noted-end}
use Rattle.cert_writer.proofs.trailer.fliers.Goals as goal

pub returns : goal.returns
returns c = noted-end c.args.routes.now c.args.n c.loop-k.k c.loop-k.fliers.items (omega (arith, c.loop-k-test.false, c.loop-k.auto.k-end)) c.loop-k.invariant
