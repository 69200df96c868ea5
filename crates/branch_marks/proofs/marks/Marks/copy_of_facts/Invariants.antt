use Rattle.std.proofs.Common.{◌≡◌, take}
use Rattle.branch_marks.proofs.marks.Marks.copy_of_facts.Given as goal

-- the facts so far
abbrev pub invariant-loop-i : goal.invariant-loop-i
invariant-loop-i l = l.facts.items ≡ take l.i l.self.facts
