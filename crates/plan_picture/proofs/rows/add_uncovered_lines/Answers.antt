use Rattle.std.proofs.Common.{◌<◌, length, of_z, rules, to_z, w64}
use Rattle.plan_picture.proofs.Uncovered.{uncovered-more}
use Rattle.plan_picture.proofs.rows.add_uncovered_lines.Goals as goal

-- one bar further on
pub loop-i-preserved : goal.loop-i-preserved
loop-i-preserved c =
    let within : c.loop-i.i < length c.args.list.now = search rules in
    rw (c.in_ok-add_uncovered_bar.ensures)
    (uncovered-more c.args.book.now (to_z w64 (of_z w64 c.args.first)) c.args.row c.loop-i.i c.args.list.now _ c.loop-i.lines.items within c.loop-i.invariant)
