use Rattle.std.proofs.Common.{ℕ, ◌<◌, get_or}
use Rattle.branch_marks.specs.Following.{IsDeadConnection}
use Rattle.propagator.proofs.DeadLinks.{AreCut}
use Rattle.propagator.proofs.dead_links.cut_links_of.Given as goal

-- the successors so far are not dead to come to
abbrev pub invariant-loop-b : goal.invariant-loop-b
invariant-loop-b l = AreCut l.book l.initial.marks l.marks l.initial.facts.items l.facts.items l.rows
    × ((i : ℕ) → i < l.b-index → ¬ IsDeadConnection l.book l.marks.facts l.a (get_or l.b-items i 0))
