use Rattle.tail_book.proofs.Order.{legal_more}
use Rattle.tail_book.proofs.laws.order.lower_stays_legal.Goals as goal

pub returns : goal.returns
returns c book k x values others route h legal = legal_more book k x values others route h legal
