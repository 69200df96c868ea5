use Rattle.connection_net.proofs.RowLaws.{rows_rise}
use Rattle.connection_net.proofs.laws.rows_rise.Goals as goal

pub returns : goal.returns
returns c = rows_rise
