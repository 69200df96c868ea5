use Rattle.std.proofs.Common.{ℕ, ◌<◌}
use Rattle.propagator.specs.Closed.{SomebodyFlies}
use Rattle.propagator.proofs.hole.hole.Given as goal

-- each activity below a has somebody
abbrev pub invariant-loop-a : goal.invariant-loop-a
invariant-loop-a l = (b : ℕ) → b < l.a → SomebodyFlies l.book l.marks.facts b
