use Rattle.connection_net.proofs.RowLaws.{successor_follows}
use Rattle.connection_net.proofs.laws.successors_follow.Goals as goal

pub returns : goal.returns
returns c = successor_follows c.link_decides.ensures c.links_rise.ensures
