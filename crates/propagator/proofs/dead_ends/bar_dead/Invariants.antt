use Rattle.propagator.specs.inside.Moves.{LosesFloors}
use Rattle.propagator.proofs.DeadEnds.{IsEnding}
use Rattle.propagator.proofs.dead_ends.bar_dead.Given as goal

-- what is dead from a on is barred
abbrev pub invariant-loop-a : goal.invariant-loop-a
invariant-loop-a l = IsEnding l.book l.k l.a l.initial.marks l.marks l.initial.facts.items l.facts.items l.initial.row l.row l.ask × LosesFloors l.initial.row l.row
