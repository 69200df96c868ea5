use Rattle.std.proofs.Common.{◌≡◌, ◌++◌, drop}
use Rattle.plan_report.specs.Report.{ids_of}
use Rattle.plan_report.proofs.report.add_ids.Given as goal

-- the ids so far, and those that are left
abbrev pub invariant-loop-a : goal.invariant-loop-a
invariant-loop-a l = l.initial.line ++ ids_of l.book l.route ≡ l.line ++ ids_of l.book (drop l.a-index l.route)
