use Rattle.std.proofs.Common.{append_assoc}
use Rattle.seed_tables.proofs.rows.add_last_fields.Goals as goal

pub returns : goal.returns
returns c = rw (c.in_ok-text-3.ensures.ok, c.in_ok-add_types.ensures, c.in_ok-text-2.ensures.ok, c.in_ok-add_stamps.ensures, c.in_ok-text.ensures.ok) (simp append_assoc)
