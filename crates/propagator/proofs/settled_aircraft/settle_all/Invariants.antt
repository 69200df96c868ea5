use Rattle.propagator.specs.inside.Moves.{MovesAll}
use Rattle.propagator.specs.inside.Work.{IsWorkOf}
use Rattle.propagator.proofs.Settled.{AreSettling, AreReadyFrom}
use Rattle.propagator.proofs.settled_aircraft.settle_all.Given as goal

-- the aircraft below k are settled, and the others are ready
abbrev pub invariant-loop-k : goal.invariant-loop-k
invariant-loop-k l = AreSettling l.book l.k l.initial.marks l.marks l.initial.facts.items l.facts.items l.rows
    × AreReadyFrom l.book l.k l.marks.facts l.rows l.seen × IsWorkOf l.book l.work
    × MovesAll l.initial.work.leave.items l.work.leave.items l.initial.rows l.rows
