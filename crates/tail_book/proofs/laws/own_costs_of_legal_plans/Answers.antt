use Rattle.tail_book.proofs.TableCosts.{own_legal_cost}
use Rattle.tail_book.proofs.laws.own_costs_of_legal_plans.Goals as goal

pub returns : goal.returns
returns c book plan legal = own_legal_cost book plan legal
