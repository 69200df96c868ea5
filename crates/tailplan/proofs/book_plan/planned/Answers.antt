use Rattle.std.proofs.Common.{sym, subst}
use Rattle.std.specs.Prelude.{option_map}
use Rattle.run_frame.specs.inside.Answer.{IsAnswerTo}
use Rattle.tailplan.specs.Tasks.{TaskSeen}
use Rattle.tailplan.specs.inside.Ending.{IsPlanned, NeverRefused}
use Rattle.tailplan.proofs.book_plan.planned.Goals as goal

-- no certificate was asked for
pub returns-in-None-clause-answer : goal.returns-in-None-clause-answer
returns-in-None-clause-answer g c =
    let told = c.searched.ensures.answer (g.F.Files.shows c.args.files) c.task.inside.version in
    let without = subst (λ cert. IsAnswerTo NeverRefused (IsPlanned (g.F.Files.shows c.args.files)) (record { book = c.args.book; limit = c.task.inside.limit; order = c.task.inside.order; version = c.task.inside.version; cert = option_map (λ s. s.now) cert }) c.searched.result)
    (sym c.in-None.is) told in
    let answered = subst (λ (task : TaskSeen). IsAnswerTo NeverRefused (IsPlanned (g.F.Files.shows c.args.files)) (record { book = c.args.book; limit = task.limit; order = task.order; version = task.version; cert = task.cert }) c.searched.result)
    c.task.view_is without in
    rw (c.of-in-None.ensures.answer, c.of-in-None.ensures.files) answered
