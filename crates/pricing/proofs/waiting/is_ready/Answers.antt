use Rattle.std.proofs.Common.{arith}
use Rattle.std.proofs.lemmas.Int.{ints, to_z-of_z}
use Rattle.pricing.proofs.waiting.is_ready.Goals as goal

pub returns-clause-ready : goal.returns-clause-ready
returns-clause-ready c = grind (arith, ints, to_z-of_z)

pub returns-clause-early : goal.returns-clause-early
returns-clause-early c = grind (arith, ints, to_z-of_z)
