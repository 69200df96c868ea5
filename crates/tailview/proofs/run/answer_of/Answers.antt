use Rattle.std.proofs.Common.{rules, ◌≡◌, Some}
use Rattle.run_frame.specs.Spelled.{spelled}
use Rattle.tailview.proofs.Promised.{true_answer}
use Rattle.tailview.specs.inside.Texts.{view_names_seen}
use Rattle.tailview.specs.Words.{names_of}
use Rattle.tailview.proofs.run.answer_of.Goals as goal

pub returns-in-Ok-clause-answer : goal.returns-in-Ok-clause-answer
returns-in-Ok-clause-answer g c =
    let is : names_of (spelled c.args.words.now) ≡ Some (view_names_seen c.in-Ok-Some.names) = search rules in
    true_answer (spelled c.args.words.now) (g.F.Files.shows c.args.files.now) (view_names_seen c.in-Ok-Some.names) _ c.judged.result is c.in-Ok.ensures.texts c.judged.ensures.answer
