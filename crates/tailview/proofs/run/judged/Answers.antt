use Rattle.std.proofs.Common.{◌≡◌, Ok, rules}
use Rattle.book_maker.specs.Made.{book_of}
use Rattle.plan_report.specs.PlanText.{plan_in}
use Rattle.tailview.specs.Cases.{before_in}
use Rattle.tailview.proofs.Promised.{case_of-all}
use Rattle.tailview.proofs.run.judged.Goals as goal

-- the book of the tables and the plans of their files are what was read, and what is kept, found and shown is theirs
pub returns-clause-answer : goal.returns-clause-answer
returns-clause-answer c =
    let texts = c.args.texts.now in
    let book : book_of texts.tables.timetable texts.tables.fleet texts.tables.rules ≡ Ok c.in-Ok.book = search rules in
    let plan : plan_in texts.plan ≡ Ok c.in-Ok-read_plan.raw = search rules in
    let before : before_in texts.before ≡ Ok c.in-Ok-plan_before.before = search rules in (
      c.in-Ok-read_plan.raw,
      c.in-Ok-plan_before.before,
      case_of-all texts c.in-Ok.book c.in-Ok-read_plan.raw c.in-Ok-plan_before.before book plan before,
      c.in-Ok-audit.ensures,
      c.in-Ok-kept.ensures,
      c.in-Ok-view_in.ensures,
    )
