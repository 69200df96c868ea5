use Rattle.connection_net.proofs.RowLists.{no_rows}
use Rattle.connection_net.proofs.rows.Rows.new.Goals as goal

-- one start and no numbers
pub returns : goal.returns
returns c = rw (c.in_ok-push.ensures.items, c.new-starts.ensures.items, c.new.ensures.items) no_rows
