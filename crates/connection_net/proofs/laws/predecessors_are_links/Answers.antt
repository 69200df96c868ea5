use Rattle.connection_net.proofs.RowLaws.{predecessors_said}
use Rattle.connection_net.proofs.laws.predecessors_are_links.Goals as goal

pub returns : goal.returns
returns c = predecessors_said c.link_decides.ensures
