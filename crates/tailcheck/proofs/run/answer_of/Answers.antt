use Rattle.std.proofs.Common.{rules, ◌≡◌, Some}
use Rattle.run_frame.specs.Spelled.{spelled}
use Rattle.tailcheck.proofs.Reading.{true_answer}
use Rattle.tailcheck.specs.inside.Texts.{check_names_seen}
use Rattle.tailcheck.specs.Words.{check_of}
use Rattle.tailcheck.proofs.run.answer_of.Goals as goal

pub returns-in-Ok-clause-answer : goal.returns-in-Ok-clause-answer
returns-in-Ok-clause-answer g c =
    let is : check_of (spelled c.args.words.now) ≡ Some (check_names_seen c.in-Ok-Some.names) = search rules in
    true_answer (spelled c.args.words.now) (g.F.Files.shows c.args.files.now) (g.F.Files.shows c.read_tables.new.files) (check_names_seen c.in-Ok-Some.names) _ c.judged.result is
    c.in-Ok.ensures.tables c.in-Ok.ensures.only_read.holds c.judged.ensures.answer
