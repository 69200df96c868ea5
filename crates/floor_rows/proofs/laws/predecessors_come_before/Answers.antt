use Rattle.floor_rows.proofs.Neighbours.{come_before}
use Rattle.floor_rows.proofs.laws.predecessors_come_before.Goals as goal

pub returns : goal.returns
returns c = come_before c.rows_are_their_places.ensures c.predecessors_are_links.ensures c.links_rise.ensures c.rows_rise.ensures
