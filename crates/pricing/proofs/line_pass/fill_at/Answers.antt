use Rattle.std.proofs.Common.{rules}
use Rattle.std.specs.Prelude.{IsTrue}
use Rattle.pricing.proofs.Busy.{are_busy_stay, turn_forward}
use Rattle.pricing.proofs.line_pass.fill_at.Goals as goal

pub fill_in_lines-requires-clause-uncut : goal.fill_in_lines-requires-clause-uncut
fill_in_lines-requires-clause-uncut c =
    let yes : IsTrue c.is_open.result = search rules in c.is_open.ensures.uncut yes

pub fill_in_lines-requires-clause-untied : goal.fill_in_lines-requires-clause-untied
fill_in_lines-requires-clause-untied c =
    let yes : IsTrue c.is_open.result = search rules in c.is_open.ensures.untied yes

-- what waits stays so while the bucket is filled link by link
pub returns-clause-busy : goal.returns-clause-busy
returns-clause-busy c =
    are_busy_stay c.args.asked.now.book.now c.every_book_is_sound.ensures c.args.asked.now.marks.now.facts c.args.asked.now.k c.args.floor
    (turn_forward c.args.asked.now.book.now c.every_book_is_sound.ensures c.args.asked.now.k c.requires.asked.aircraft) c.args.b c.requires.activity c.args.before c.requires.earlier
    c.args.store.now c.fill.new.store c.every_store_is_sound.ensures c.requires.state.nodes c.in_ok-fill.ensures.grows c.args.airports.now c.requires.busy
