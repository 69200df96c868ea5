use Rattle.tail_book.proofs.Partition.{plan_of_book}
use Rattle.tail_book.proofs.laws.sums.legal_plans_fly_the_book.Goals as goal

pub returns : goal.returns
returns c book plan legal = plan_of_book book plan legal
