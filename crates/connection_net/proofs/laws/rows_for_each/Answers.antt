use Rattle.connection_net.proofs.RowLaws.{row_for_each}
use Rattle.connection_net.proofs.laws.rows_for_each.Goals as goal

pub returns : goal.returns
returns c = row_for_each
