use Rattle.tail_book.proofs.Sums.{total_of_two}
use Rattle.tail_book.proofs.laws.sums.total_of_two_lists.Goals as goal

pub returns : goal.returns
returns c xs ys = total_of_two xs ys
