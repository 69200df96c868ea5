use Rattle.tail_book.proofs.SoundTested.{cost_table_tested}
use Rattle.tail_book.proofs.laws.cost_table_decides.Goals as goal

pub returns : goal.returns
returns c table = cost_table_tested table
