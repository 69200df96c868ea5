use Rattle.plan_picture.proofs.Signed.{as_it_was}
use Rattle.std.proofs.Common.{refl}
use Rattle.plan_picture.proofs.bars.bar_line.Goals as goal

-- the line is its pieces
pub returns : goal.returns
returns c = rw (c.in_ok-text-7.ensures.ok, c.in_ok-text-6.ensures.ok, c.in_ok-text-5.ensures.ok, c.in_ok-text-4.ensures.ok, c.in_ok-text-3.ensures.ok, c.in_ok-text-2.ensures.ok, c.in_ok-text.ensures.ok, c.in_ok-add_front.ensures, c.in_ok-line.ensures, c.id_of.ensures, c.port_name.ensures, c.from_port.ensures.value, c.port_name-2.ensures, c.to_port.ensures.value, as_it_was c.args.first c.ranges.first) refl
