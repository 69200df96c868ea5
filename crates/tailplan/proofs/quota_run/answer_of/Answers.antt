use Rattle.std.proofs.Common.{rules, ◌≡◌, Some}
use Rattle.run_frame.specs.Spelled.{spelled}
use Rattle.tailplan.proofs.QuotaPromised.{true_answer}
use Rattle.tailplan.specs.QuotaWords.{quota_of}
use Rattle.tailplan.specs.inside.FourTexts.{four_names_seen}
use Rattle.tailplan.proofs.quota_run.answer_of.Goals as goal

pub returns-in-Ok-clause-answer : goal.returns-in-Ok-clause-answer
returns-in-Ok-clause-answer g c =
    let is : quota_of (spelled c.args.words.now) ≡ Some (four_names_seen c.in-Some.names) = search rules in
    true_answer (spelled c.args.words.now) (g.F.Files.shows c.args.files.now) (four_names_seen c.in-Some.names) _ c.planned.result is c.in-Ok.ensures.texts c.planned.ensures.answer
