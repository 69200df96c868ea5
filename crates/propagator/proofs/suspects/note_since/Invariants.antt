use Rattle.std.proofs.Common.{ℕ, ◌<◌, ◌≤◌, get_or}
use Rattle.branch_marks.specs.declared.fact.Fact.{Fact}
use Rattle.propagator.specs.inside.Moves.{KeepsFlags}
use Rattle.propagator.specs.inside.Suspects.{IsNoted}
use Rattle.propagator.proofs.suspects.note_since.Given as goal

-- the facts from those that were seen up to place i are noted
abbrev pub invariant-loop-i : goal.invariant-loop-i
invariant-loop-i l =
    ((j : ℕ) → l.seen ≤ j → j < l.i → (d : Fact) → IsNoted l.leave l.arrive l.pass (get_or l.marks.facts j d)) × KeepsFlags l.initial.leave l.leave
