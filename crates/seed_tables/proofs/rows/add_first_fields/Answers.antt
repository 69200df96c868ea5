use Rattle.std.proofs.Common.{append_assoc}
use Rattle.seed_tables.proofs.rows.add_first_fields.Goals as goal

pub returns : goal.returns
returns c = rw (c.in_ok-add_airports.ensures, c.in_ok-text.ensures.ok, c.in_ok-add_flight_id.ensures) (simp append_assoc)
