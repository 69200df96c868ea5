use Rattle.tail_book.specs.Link.{is_connected}
use Rattle.branch_marks.specs.MarkTests.{is_usable}
use Rattle.branch_marks.specs.inside.MarkParts.{is_open}
use Rattle.branch_marks.proofs.Parts.{usable_parts, first_fails, second_decides}
use Rattle.branch_marks.proofs.marks.Marks.is_usable.Goals as goal

-- what is open, and in place and time
pub returns-then-is_open : goal.returns-then-is_open
returns-then-is_open c =
    let book = c.args.book.now in
    let facts = c.args.self.now.facts in
    second_decides (is_usable book facts c.args.k c.args.from c.args.b)
    (is_open book facts c.args.k c.args.from c.args.b)
    (is_connected book c.args.k c.args.from c.args.b) c.is_open.result c.connected.result (usable_parts book facts c.args.k c.args.from c.args.b) c.is_open.ensures c.if-is_open.true c.connected.ensures.value

pub returns-else-is_open : goal.returns-else-is_open
returns-else-is_open c =
    let book = c.args.book.now in
    let facts = c.args.self.now.facts in
    first_fails (is_usable book facts c.args.k c.args.from c.args.b)
    (is_open book facts c.args.k c.args.from c.args.b)
    (is_connected book c.args.k c.args.from c.args.b) c.is_open.result (usable_parts book facts c.args.k c.args.from c.args.b) c.is_open.ensures c.if-is_open.false
