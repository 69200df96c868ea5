use Rattle.connection_net.proofs.RowLaws.{heads_said}
use Rattle.connection_net.proofs.laws.heads_are_links.Goals as goal

pub returns : goal.returns
returns c = heads_said c.link_decides.ensures
