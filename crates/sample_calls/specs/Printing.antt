-- What was printed, where the sink tells what it took.
use Rattle.tail_book.specs.Seen.{BookSeen, RawPlanSeen}
use Rattle.tail_book.specs.Truth.{IsTrueOutcome}
use Rattle.tail_book.specs.declared.outcome.Outcome.{Outcome}
use Rattle.tail_outside.specs.Outside.{Takes}
use Rattle.tail_outside.specs.Shown.{SinkShown}
use Rattle.branch_tree.specs.Decided.{IsDecided}
use Rattle.plan_audit.specs.Broken.{IsAuditOf}
use Rattle.plan_audit.specs.declared.broken.Audit.{Audit}
use Rattle.plan_report.specs.inside.AuditText.{audit_text}
use Rattle.plan_report.specs.Report.{report}

-- the sink took the report of a least plan, or that no plan is legal
abbrev pub PrintsLeastPlan : BookSeen → SinkShown → SinkShown → Type 0
PrintsLeastPlan book old new = (answer : Outcome) × IsTrueOutcome book answer × IsDecided answer × Takes old new (report book answer)

-- the sink took the text of the plan's audit
abbrev pub PrintsAudit : BookSeen → RawPlanSeen → SinkShown → SinkShown → Type 0
PrintsAudit book raw old new = (found : Audit) × IsAuditOf book raw found × Takes old new (audit_text book found)
