use Rattle.connection_net.proofs.RowLaws.{successors_said}
use Rattle.connection_net.proofs.laws.successors_are_links.Goals as goal

pub returns : goal.returns
returns c = successors_said c.link_decides.ensures
