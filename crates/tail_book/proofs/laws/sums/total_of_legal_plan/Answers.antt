use Rattle.tail_book.proofs.Partition.{total_of_legal_plan}
use Rattle.tail_book.proofs.laws.sums.total_of_legal_plan.Goals as goal

pub returns : goal.returns
returns c book f plan legal = total_of_legal_plan book f plan legal
