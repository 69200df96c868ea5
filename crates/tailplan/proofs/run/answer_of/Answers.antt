use Rattle.std.proofs.Common.{rules, ◌≡◌, Some, refl}
use Rattle.run_frame.specs.Spelled.{spelled}
use Rattle.run_frame.specs.inside.Answer.{IsAnswerTo}
use Rattle.tailplan.specs.Answers.{AreRefused, AreSolved, IsTrueAnswer}
use Rattle.tailplan.specs.Tasks.{TaskSeen}
use Rattle.tailplan.specs.Words.{run_of}
use Rattle.tailplan.specs.inside.Tasks.{task_names_seen}
use Rattle.tailplan.proofs.Lifting.{if_ok, left_before}
use Rattle.tailplan.proofs.Promised.{task-read, true_answer}
use Rattle.tailplan.proofs.run.answer_of.Goals as goal

pub returns-in-Ok-clause-answer : goal.returns-in-Ok-clause-answer
returns-in-Ok-clause-answer g c =
    let names = task_names_seen c.in-Ok-Some.names in let words = spelled c.args.words.now in let files = g.F.Files.shows c.args.files in
    let later = g.F.Files.shows c.solved.result.files in
    let is : run_of words ≡ Some names = search rules in
    let task : TaskSeen = record { tables = c.in-Ok.tables; limit = names.limit; order = names.order; version = names.version; cert = names.cert } in
    if_ok (IsAnswerTo AreRefused (AreSolved later) task) (IsTrueAnswer words files later) c.solved.result.answer
    (λ answer own. true_answer words files later names task answer is (task-read files names c.in-Ok.tables c.in-Ok.ensures.tables) own) c.solved.ensures.answer

-- what the file held before the tables were read it held after
pub returns-in-Ok-clause-left : goal.returns-in-Ok-clause-left
returns-in-Ok-clause-left g c =
    let names = task_names_seen c.in-Ok-Some.names in let words = spelled c.args.words.now in let files = g.F.Files.shows c.args.files in
    let is : run_of words ≡ Some names = search rules in
    let task : TaskSeen = record { tables = c.in-Ok.tables; limit = names.limit; order = names.order; version = names.version; cert = names.cert } in
    left_before words files (g.F.Files.shows c.read_tables.new.files) (g.F.Files.shows c.solved.result.files) names is c.read_tables.ensures.only_read task refl
    (task-read files names c.in-Ok.tables c.in-Ok.ensures.tables) c.solved.ensures.left
