use Rattle.propagator.specs.Keeping.{IsMadeFor}
use Rattle.network_tests.proofs.tests.propagation.chance.kept.follow_three.Given as goal

-- the propagator is of the book
abbrev pub invariant-loop-turn : goal.invariant-loop-turn
invariant-loop-turn l = IsMadeFor l.book l.kept
