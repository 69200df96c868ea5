use Rattle.tail_book.proofs.Sums.{length_of_partition}
use Rattle.tail_book.proofs.laws.sums.length_of_partition.Goals as goal

pub returns : goal.returns
returns c n xs parts = length_of_partition n xs parts
