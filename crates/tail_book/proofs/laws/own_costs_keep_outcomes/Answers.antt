use Rattle.tail_book.proofs.TruthLemmas.{own_outcomes}
use Rattle.tail_book.proofs.laws.own_costs_keep_outcomes.Goals as goal

pub returns : goal.returns
returns c book x = own_outcomes book x
