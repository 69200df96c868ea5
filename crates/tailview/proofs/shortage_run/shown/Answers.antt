use Rattle.std.proofs.Common.{◌≡◌, Ok, rules}
use Rattle.book_maker.specs.Made.{book_of}
use Rattle.shortage_reader.specs.ShortageText.{shortage_in}
use Rattle.tailview.proofs.ShortagePromised.{case_of-both}
use Rattle.tailview.proofs.shortage_run.shown.Goals as goal

-- the book of the tables and the shortage of its file are what was read, and what is shown is theirs
pub returns-in-Ok-read_shortage-clause-answer : goal.returns-in-Ok-read_shortage-clause-answer
returns-in-Ok-read_shortage-clause-answer c =
    let texts = c.args.texts.now in
    let book : book_of texts.tables.timetable texts.tables.fleet texts.tables.rules ≡ Ok c.in-Ok.book = search rules in
    let told : shortage_in c.in-Ok.book texts.told ≡ Ok c.in-Ok-read_shortage.told = search rules in
    (case_of-both texts c.in-Ok.book c.in-Ok-read_shortage.told book told, c.shown_view-view.ensures)
