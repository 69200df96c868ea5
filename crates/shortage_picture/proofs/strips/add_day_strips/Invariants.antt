use Rattle.std.proofs.Common.{◌≡◌, ◌++◌}
use Rattle.shortage_picture.specs.Strips.{day_strips}
use Rattle.shortage_picture.proofs.strips.add_day_strips.Given as goal

-- the strips so far
abbrev pub invariant-loop-i : goal.invariant-loop-i
invariant-loop-i l = l.lines.items ≡ l.initial.lines.items ++ day_strips l.height l.from l.i
