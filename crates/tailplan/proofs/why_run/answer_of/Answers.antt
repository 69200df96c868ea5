use Rattle.std.proofs.Common.{rules, ◌≡◌, Some}
use Rattle.run_frame.specs.Spelled.{spelled}
use Rattle.run_frame.specs.inside.TableFiles.{names_seen}
use Rattle.tailplan.proofs.WhyPromised.{true_answer}
use Rattle.tailplan.specs.WhyWords.{why_of}
use Rattle.tailplan.proofs.why_run.answer_of.Goals as goal

pub returns-in-Ok-clause-answer : goal.returns-in-Ok-clause-answer
returns-in-Ok-clause-answer g c =
    let is : why_of (spelled c.args.words.now) ≡ Some (names_seen c.in-Some.names) = search rules in
    true_answer (spelled c.args.words.now) (g.F.Files.shows c.args.files.now) (names_seen c.in-Some.names) _ c.explained.result is c.in-Ok.ensures.tables c.explained.ensures.answer
