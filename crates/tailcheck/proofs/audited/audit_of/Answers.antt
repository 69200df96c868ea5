use Rattle.std.proofs.Common.{◌≡◌, Ok, rules}
use Rattle.book_maker.specs.Made.{book_of}
use Rattle.plan_report.specs.PlanText.{plan_in}
use Rattle.tailcheck.proofs.Reading.{plan_case}
use Rattle.tailcheck.proofs.audited.audit_of.Goals as goal

-- the book of the tables and the plan of its file are what was read
pub returns-in-Ok-audit-clause-answer : goal.returns-in-Ok-audit-clause-answer
returns-in-Ok-audit-clause-answer c =
    let tables = c.args.tables.now in
    let book : book_of tables.timetable tables.fleet tables.rules ≡ Ok c.in-Ok.book = search rules in
    let plan : plan_in c.args.plan.now ≡ Ok c.in-Ok-read_plan.raw = search rules in
    (c.in-Ok-read_plan.raw, plan_case tables c.args.plan.now c.in-Ok.book c.in-Ok-read_plan.raw book plan, c.in-Ok-audit.ensures)
