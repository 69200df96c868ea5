use Rattle.std.proofs.Common.{rules, ◌≡◌, Some}
use Rattle.run_frame.specs.Spelled.{spelled}
use Rattle.tailview.proofs.ShortagePromised.{true_answer}
use Rattle.tailview.specs.ShortageWords.{shortage_of}
use Rattle.tailview.specs.inside.Shortages.{shortage_names_seen}
use Rattle.tailview.proofs.shortage_run.answer_of.Goals as goal

pub returns-in-Ok-clause-answer : goal.returns-in-Ok-clause-answer
returns-in-Ok-clause-answer g c =
    let is : shortage_of (spelled c.args.words.now) ≡ Some (shortage_names_seen c.in-Ok-Some.names) = search rules in
    true_answer (spelled c.args.words.now) (g.F.Files.shows c.args.files.now) (shortage_names_seen c.in-Ok-Some.names) _ c.shown.result is c.in-Ok.ensures.texts c.shown.ensures.answer
