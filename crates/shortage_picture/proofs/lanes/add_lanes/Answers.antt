use Rattle.std.proofs.Common.{◌<◌, length, of_z, rules, to_z, w64}
use Rattle.shortage_picture.proofs.LaneLemmas.{lanes-more}
use Rattle.shortage_picture.proofs.lanes.add_lanes.Goals as goal

-- one bar further on
pub loop-i-preserved : goal.loop-i-preserved
loop-i-preserved c =
    let within : c.loop-i.i < length c.args.list.now = search rules in
    rw (c.in_ok-add_lane.ensures)
    (lanes-more c.args.book.now c.args.side (to_z w64 (of_z w64 c.args.first)) c.args.width c.args.row c.loop-i.i c.args.list.now _ c.loop-i.lines.items within c.loop-i.invariant)
