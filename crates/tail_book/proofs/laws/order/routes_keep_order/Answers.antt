use Rattle.tail_book.proofs.Order.{route_more}
use Rattle.tail_book.proofs.laws.order.routes_keep_order.Goals as goal

pub returns : goal.returns
returns c book k x values others route h = route_more book k x values others route h
