use Rattle.tail_book.proofs.Order.{each_at_most_tested}
use Rattle.tail_book.proofs.laws.order.each_at_most_decides.Goals as goal

pub returns : goal.returns
returns c values others = each_at_most_tested values others
