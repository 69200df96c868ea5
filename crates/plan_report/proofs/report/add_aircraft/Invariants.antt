use Rattle.std.proofs.Common.{◌≡◌, ◌++◌, drop}
use Rattle.plan_report.specs.Report.{aircraft_lines}
use Rattle.plan_report.proofs.report.add_aircraft.Given as goal

-- the lines so far, and those that are left
abbrev pub invariant-loop-k : goal.invariant-loop-k
invariant-loop-k l = l.initial.lines.items ++ aircraft_lines l.book 0 l.routes ≡ l.lines.items ++ aircraft_lines l.book l.k (drop l.k l.routes)
