use Rattle.tail_book.proofs.TableCosts.{own_cost_from}
use Rattle.tail_book.proofs.laws.own_costs_of_routes.Goals as goal

pub returns : goal.returns
returns c book k x route lk below = own_cost_from book k x route lk below
