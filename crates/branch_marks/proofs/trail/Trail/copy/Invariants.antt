use Rattle.std.proofs.Common.{◌≡◌, take}
use Rattle.branch_marks.proofs.trail.Trail.copy.Given as goal

-- the facts so far
abbrev pub invariant-loop-i : goal.invariant-loop-i
invariant-loop-i l = l.trail ≡ take l.i l.self
