use Rattle.std.proofs.Common.{◌≡◌, ◌++◌, drop}
use Rattle.plan_picture.specs.Rows.{rows_from}
use Rattle.plan_picture.proofs.rows.add_rows.Given as goal

-- the rows so far, and those of the routes that are left
abbrev pub invariant-loop-k : goal.invariant-loop-k
invariant-loop-k l = l.initial.lines.items ++ rows_from l.book l.homes l.first l.width l.rules 0 l.routes ≡ l.lines.items ++ rows_from l.book l.homes l.first l.width l.rules l.k (drop l.k l.routes)
