use Rattle.std.proofs.Common.{◌≡◌, ◌++◌, drop}
use Rattle.plan_picture.specs.Rows.{uncovered_lines}
use Rattle.plan_picture.proofs.rows.add_uncovered_lines.Given as goal

-- the lines so far, and those of the activities that are left
abbrev pub invariant-loop-i : goal.invariant-loop-i
invariant-loop-i l = l.initial.lines.items ++ uncovered_lines l.book l.first l.row 0 l.list ≡ l.lines.items ++ uncovered_lines l.book l.first l.row l.i (drop l.i l.list)
