use Rattle.tail_book.proofs.TableCosts.{own_activity_cost}
use Rattle.tail_book.proofs.laws.own_costs_of_activities.Goals as goal

pub returns : goal.returns
returns c book k a lk la = own_activity_cost book k a lk la
