use Rattle.tail_book.proofs.Partition.{all_are_flown}
use Rattle.tail_book.proofs.laws.sums.legal_plans_fly_all.Goals as goal

pub returns : goal.returns
returns c book plan legal = all_are_flown book plan legal
