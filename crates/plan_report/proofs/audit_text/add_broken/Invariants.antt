use Rattle.std.proofs.Common.{◌≡◌, ◌++◌, drop, map}
use Rattle.plan_report.specs.AuditText.{broken_line}
use Rattle.plan_report.proofs.audit_text.add_broken.Given as goal

-- the lines so far, and those that are left
abbrev pub invariant-loop-rule : goal.invariant-loop-rule
invariant-loop-rule l = l.initial.lines.items ++ map (broken_line l.book) l.rules ≡ l.lines.items ++ map (broken_line l.book) (drop l.rule-index l.rules)
