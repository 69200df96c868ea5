use Rattle.std.proofs.Common.{ℕ, ◌<◌, ◌≤◌, get_or}
use Rattle.propagator.specs.inside.Suspects.{LowersPasses}
use Rattle.propagator.proofs.suspects.note_over.Given as goal

-- the activities below a are looked at
abbrev pub invariant-loop-a : goal.invariant-loop-a
invariant-loop-a l = ((x : ℕ) → x < l.a → get_or l.pass x 0 ≤ l.c) × LowersPasses l.initial.pass l.pass
