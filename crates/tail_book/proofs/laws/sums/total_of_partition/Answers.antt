use Rattle.tail_book.proofs.Sums.{total_of_partition}
use Rattle.tail_book.proofs.laws.sums.total_of_partition.Goals as goal

pub returns : goal.returns
returns c n f xs parts = total_of_partition n f xs parts
