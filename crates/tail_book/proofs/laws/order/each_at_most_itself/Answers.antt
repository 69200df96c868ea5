use Rattle.tail_book.proofs.Order.{at_most_itself}
use Rattle.tail_book.proofs.laws.order.each_at_most_itself.Goals as goal

pub returns : goal.returns
returns c values = at_most_itself values
