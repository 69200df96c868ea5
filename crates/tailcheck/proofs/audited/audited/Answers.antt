use Rattle.run_frame.specs.inside.Answer.{IsAnswerTo}
use Rattle.tailcheck.proofs.Reading.{plan_over}
use Rattle.tailcheck.specs.Answers.{AreJudged, AreRefused}
use Rattle.tailcheck.specs.Texts.{PlanBytes}
use Rattle.tailcheck.proofs.audited.audited.Goals as goal

pub returns-in-Ok-clause-answer : goal.returns-in-Ok-clause-answer
returns-in-Ok-clause-answer g c =
    let own : IsAnswerTo AreRefused AreJudged (record { tables = c.args.tables.now; subject = PlanBytes c.in-Ok.plan.items }) c.audit_of.result =
    rw c.deref.ensures.value at c.audit_of.ensures.answer in
    plan_over (g.F.Files.shows c.args.files.now) c.args.tables.now c.args.name.now c.in-Ok.plan.items c.audit_of.result c.in-Ok.ensures.bytes own
