use Rattle.floor_rows.proofs.Neighbours.{bring_all}
use Rattle.floor_rows.proofs.laws.predecessors_bring_all.Goals as goal

pub returns : goal.returns
returns c book sound marks k b lt floor = bring_all c.rows_are_their_places.ensures c.predecessors_are_links.ensures c.links_rise.ensures c.rows_rise.ensures book sound b lt c.usable_decides.ensures marks k floor
