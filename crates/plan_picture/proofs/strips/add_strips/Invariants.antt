use Rattle.std.proofs.Common.{◌≡◌, ◌++◌}
use Rattle.plan_picture.specs.Strips.{strips}
use Rattle.plan_picture.proofs.strips.add_strips.Given as goal

-- the strips so far
abbrev pub invariant-loop-d : goal.invariant-loop-d
invariant-loop-d l = l.lines.items ≡ l.initial.lines.items ++ strips l.height l.d
