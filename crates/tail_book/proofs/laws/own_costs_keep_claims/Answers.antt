use Rattle.tail_book.proofs.TruthLemmas.{own_claims}
use Rattle.tail_book.proofs.laws.own_costs_keep_claims.Goals as goal

pub returns : goal.returns
returns c book x = own_claims book x
