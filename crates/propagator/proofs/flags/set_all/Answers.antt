use Rattle.std.proofs.Common.{arith}
use Rattle.propagator.proofs.SetFlags.{all_set}
use Rattle.propagator.proofs.flags.set_all.Goals as goal

pub returns : goal.returns
returns c = all_set c.rows_are_their_places.ensures c.args.numbers.now c.loop-i.i-index c.args.flags.now c.loop-i.flags (omega arith) c.loop-i.invariant
