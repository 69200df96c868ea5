use Rattle.std.proofs.Common.{◌≡◌, ◌+◌, ◌++◌, [], append_assoc, of_z, to_z, w64}
use Rattle.std.specs.Prelude.{◌%◌, None}
use Rattle.std.proofs.lemmas.Int.{to_z-of_z}
use Rattle.std.proofs.lemmas.Result.{on_ok_weaker}
use Rattle.plan_picture.specs.Bars.{bar_lines}
use Rattle.shortage_picture.specs.declared.lanes.TheConstants.{LANES}
use Rattle.shortage_picture.proofs.lanes.add_lane.Goals as goal

-- the head, where there is one, and the bar
pub returns : goal.returns
returns c = on_ok_weaker c.add_bar.result
    (λ (last : c.add_bar.new.lines.items ≡ c.add_head.new.lines.items ++ bar_lines c.args.book.now (to_z w64 (of_z w64 c.args.first)) (c.args.row + c.args.i % LANES) c.args.i c.args.a [] None).
    rw (last, c.in_ok-add_head.ensures, to_z-of_z w64 c.args.first c.ranges.first) (append_assoc c.args.lines.now.items _ _)) c.add_bar.ensures
