use Rattle.std.proofs.Common.{◌≡◌, ◌++◌}
use Rattle.plan_picture.specs.Picture.{day_lines}
use Rattle.plan_picture.proofs.picture.add_days.Given as goal

-- the days so far
abbrev pub invariant-loop-d : goal.invariant-loop-d
invariant-loop-d l = l.lines.items ≡ l.initial.lines.items ++ day_lines l.first l.d
