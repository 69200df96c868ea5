use Rattle.propagator.specs.inside.Moves.{MovesAll}
use Rattle.propagator.specs.inside.Work.{IsWorkOf}
use Rattle.propagator.proofs.OnlyCarriers.{AreCarrying}
use Rattle.propagator.proofs.carriers.carry_each.Given as goal

-- the activities below a have been asked
abbrev pub invariant-loop-a : goal.invariant-loop-a
invariant-loop-a l = AreCarrying l.book l.initial.marks l.marks l.initial.facts.items l.facts.items l.rows l.some l.a × IsWorkOf l.book l.work
    × MovesAll l.initial.work.leave.items l.work.leave.items l.initial.rows l.rows
