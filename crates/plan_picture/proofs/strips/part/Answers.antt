use Rattle.std.proofs.Common.{refl}
use Rattle.plan_picture.proofs.strips.part.Goals as goal

-- the line is its pieces
pub returns : goal.returns
returns c = rw (c.in_ok-text-9.ensures.ok, c.in_ok-unsigned-8.ensures.ok, c.in_ok-text-8.ensures.ok, c.in_ok-unsigned-7.ensures.ok, c.in_ok-text-7.ensures.ok, c.in_ok-unsigned-6.ensures.ok, c.in_ok-text-6.ensures.ok, c.in_ok-unsigned-5.ensures.ok, c.in_ok-text-5.ensures.ok, c.in_ok-unsigned-4.ensures.ok, c.in_ok-text-4.ensures.ok, c.in_ok-unsigned-3.ensures.ok, c.in_ok-text-3.ensures.ok, c.in_ok-unsigned-2.ensures.ok, c.in_ok-text-2.ensures.ok, c.in_ok-unsigned.ensures.ok, c.in_ok-text.ensures.ok, c.in_ok-line.ensures, c.strip_top.ensures.value, c.strip_height.ensures.value, c.strip_height-2.ensures.value) refl
