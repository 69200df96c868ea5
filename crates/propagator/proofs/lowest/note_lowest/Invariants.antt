use Rattle.propagator.proofs.LowestFloors.{AreLowered}
use Rattle.propagator.proofs.lowest.note_lowest.Given as goal

-- they are lowered to those of the aircraft below k
abbrev pub invariant-loop-k : goal.invariant-loop-k
invariant-loop-k l = AreLowered l.book l.rows l.lowest l.k
