use Rattle.std.proofs.Common.{add-one, append_assoc}
use Rattle.plan_picture.proofs.Signed.{as_it_was}
use Rattle.plan_picture.proofs.picture.add_days.Goals as goal

-- a day more
pub loop-d-preserved : goal.loop-d-preserved
loop-d-preserved c = rw (add-one, c.in_ok-push.ensures.items, c.in_ok-day_line.ensures, as_it_was c.args.first c.ranges.first, c.loop-d.invariant) (append_assoc c.args.lines.now.items _ _)
