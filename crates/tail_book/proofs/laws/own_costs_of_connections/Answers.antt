use Rattle.tail_book.proofs.TableCosts.{own_connection_cost}
use Rattle.tail_book.proofs.laws.own_costs_of_connections.Goals as goal

pub returns : goal.returns
returns c book k x b = own_connection_cost book k x b
