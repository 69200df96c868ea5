use Rattle.std.proofs.Common.{ℕ, ◌<◌}
use Rattle.branch_marks.specs.Following.{IsDeadConnection}
use Rattle.propagator.proofs.DeadLinks.{AreCut}
use Rattle.propagator.proofs.dead_links.cut_links.Given as goal

-- no connection from an activity below a is dead
abbrev pub invariant-loop-a : goal.invariant-loop-a
invariant-loop-a l = AreCut l.book l.initial.marks l.marks l.initial.facts.items l.facts.items l.rows
    × ((c : ℕ) → c < l.a → (b : ℕ) → ¬ IsDeadConnection l.book l.marks.facts c b)
