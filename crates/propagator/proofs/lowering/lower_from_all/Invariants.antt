use Rattle.std.proofs.Common.{take}
use Rattle.propagator.specs.inside.Rising.{IsCopied}
use Rattle.propagator.proofs.LoweredFloors.{IsLowering}
use Rattle.propagator.proofs.lowering.lower_from_all.Given as goal

-- what is there, lowered to what the predecessors that are left bring, is the floor
abbrev pub invariant-loop-i : goal.invariant-loop-i
invariant-loop-i l = IsLowering l.book l.marks.facts l.k l.b l.initial.row l.row (take l.i l.places) × IsCopied l.row l.b l.least
