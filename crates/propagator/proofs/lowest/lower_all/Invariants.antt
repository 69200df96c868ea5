use Rattle.propagator.proofs.LowestFloors.{IsLowered}
use Rattle.propagator.proofs.lowest.lower_all.Given as goal

-- the least floors below a are lowered
abbrev pub invariant-loop-a : goal.invariant-loop-a
invariant-loop-a l = IsLowered l.book l.row l.initial.lowest l.lowest l.a
