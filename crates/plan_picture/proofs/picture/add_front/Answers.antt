use Rattle.std.proofs.Common.{append_assoc}
use Rattle.plan_picture.proofs.picture.add_front.Goals as goal

-- the lines one after the other
pub returns : goal.returns
returns c = rw (c.in_ok-push-6.ensures.items, c.in_ok-push-5.ensures.items, c.in_ok-push-4.ensures.items, c.in_ok-push-3.ensures.items, c.in_ok-push-2.ensures.items, c.in_ok-push.ensures.items, c.in_ok-open_line.ensures, c.in_ok-fixed_line.ensures, c.in_ok-fixed_line-2.ensures, c.in_ok-fixed_line-3.ensures, c.style.ensures, c.grid_patterns.ensures, c.clock.ensures, c.in_ok-title_line.ensures, c.in_ok-grid_line.ensures) (simp append_assoc)
