use Rattle.tail_book.proofs.Order.{route_count}
use Rattle.tail_book.proofs.laws.order.routes_keep_count.Goals as goal

pub returns : goal.returns
returns c book k x values route e = route_count book k x values route e
