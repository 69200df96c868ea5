use Rattle.tail_book.proofs.Order.{step_more}
use Rattle.tail_book.proofs.laws.order.steps_keep_order.Goals as goal

pub returns : goal.returns
returns c book k x b values others h = step_more book k x b values others h
