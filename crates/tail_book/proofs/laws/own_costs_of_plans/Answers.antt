use Rattle.tail_book.proofs.TableCosts.{own_plan_cost}
use Rattle.tail_book.proofs.laws.own_costs_of_plans.Goals as goal

pub returns : goal.returns
returns c book plan one_each below = own_plan_cost book plan one_each below
