use Rattle.std.proofs.Common.{◌≡◌, ◌++◌, drop}
use Rattle.plan_report.specs.Report.{ids_of}
use Rattle.shortage_report.proofs.shortage_lines.add_ids.Given as goal

-- the ids so far, and those that are left
abbrev pub invariant-loop-a : goal.invariant-loop-a
invariant-loop-a l = l.initial.line ++ ids_of l.book l.list ≡ l.line ++ ids_of l.book (drop l.a-index l.list)
