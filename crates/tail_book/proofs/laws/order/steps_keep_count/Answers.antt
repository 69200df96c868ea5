use Rattle.tail_book.proofs.Order.{step_count}
use Rattle.tail_book.proofs.laws.order.steps_keep_count.Goals as goal

pub returns : goal.returns
returns c book k x b values e = step_count book k x b values e
