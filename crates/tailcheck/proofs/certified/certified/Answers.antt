use Rattle.std.proofs.Common.{◌≡◌, Ok, rules}
use Rattle.book_maker.specs.Made.{book_of}
use Rattle.tailcheck.proofs.Reading.{verdict_over}
use Rattle.tailcheck.proofs.certified.certified.Goals as goal

pub returns-clause-answer : goal.returns-clause-answer
returns-clause-answer g c =
    let tables = c.args.tables.now in
    let book : book_of tables.timetable tables.fleet tables.rules ≡ Ok c.in-Ok.book = search rules in
    verdict_over (g.F.Files.shows c.args.files.now) tables c.args.name.now c.in-Ok.book c.verdict_on.result book c.verdict_on.ensures.verdict
