use Rattle.tail_book.specs.Lookup.{aircraft}
use Rattle.propagator.specs.inside.Unnamed.{unnamed}
use Rattle.propagator.specs.inside.Moves.{MovesAll}
use Rattle.propagator.specs.inside.Work.{IsWorkOf}
use Rattle.propagator.proofs.Settled.{AreSettling}
use Rattle.propagator.proofs.carriers.carry_all.Given as goal

-- all aircraft are settled
abbrev pub invariant-loop : goal.invariant-loop
invariant-loop l = AreSettling l.book (aircraft l.book) l.initial.marks l.marks l.initial.facts.items l.facts.items l.rows × IsWorkOf l.book l.work
    × MovesAll l.initial.work.leave.items l.work.leave.items l.initial.rows l.rows

-- each Must leaves fewer activities unnamed
abbrev pub decreases-loop : goal.decreases-loop
decreases-loop l = unnamed l.book l.marks.facts
