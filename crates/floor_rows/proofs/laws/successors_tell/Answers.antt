use Rattle.floor_rows.proofs.Neighbours.{tell}
use Rattle.floor_rows.proofs.laws.successors_tell.Goals as goal

pub returns : goal.returns
returns c = tell c.rows_are_their_places.ensures c.successors_are_links.ensures c.rows_rise.ensures c.usable_decides.ensures c.limits_decide.ensures
