use Rattle.propagator.proofs.SetFlags.{AreSetBelow}
use Rattle.propagator.proofs.flags.set_all.Given as goal

-- those that were passed are set
abbrev pub invariant-loop-i : goal.invariant-loop-i
invariant-loop-i l = AreSetBelow l.numbers l.i-index l.initial.flags l.flags
