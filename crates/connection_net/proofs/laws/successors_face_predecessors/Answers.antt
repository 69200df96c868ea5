use Rattle.connection_net.proofs.RowLaws.{both_directions}
use Rattle.connection_net.proofs.laws.successors_face_predecessors.Goals as goal

pub returns : goal.returns
returns c = both_directions c.link_decides.ensures
