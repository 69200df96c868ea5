use Rattle.tail_book.proofs.Order.{within_more}
use Rattle.tail_book.proofs.laws.order.lower_stays_within.Goals as goal

pub returns : goal.returns
returns c counters values others h k = within_more counters values others h k
