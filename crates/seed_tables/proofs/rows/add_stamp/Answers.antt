use Rattle.std.proofs.Common.{append_assoc}
use Rattle.seed_tables.proofs.rows.add_stamp.Goals as goal

pub returns : goal.returns
returns c = rw (c.in_ok-text-4.ensures.ok, c.in_ok-text-3.ensures.ok, c.in_ok-text-2.ensures.ok, c.in_ok-text.ensures.ok, c.digit.ensures, c.digit-2.ensures, c.digit-3.ensures, c.digit-4.ensures, c.digit-5.ensures, c.digit-6.ensures) (simp append_assoc)
