use Rattle.tail_book.proofs.Order.{at_most_chained}
use Rattle.tail_book.proofs.laws.order.each_at_most_chains.Goals as goal

pub returns : goal.returns
returns c values middle others h k = at_most_chained values middle others h k
