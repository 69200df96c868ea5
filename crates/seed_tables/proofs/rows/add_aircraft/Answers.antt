use Rattle.std.proofs.Common.{append_assoc}
use Rattle.seed_tables.proofs.rows.add_aircraft.Goals as goal

pub returns : goal.returns
returns c = rw (c.in_ok-text-3.ensures.ok, c.in_ok-add_airport.ensures, c.in_ok-text-2.ensures.ok, c.in_ok-add_type.ensures, c.in_ok-text.ensures.ok, c.digit.ensures) (simp append_assoc)
