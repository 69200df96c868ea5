use Rattle.tail_book.proofs.Sums.{total_by_number}
use Rattle.tail_book.proofs.laws.sums.total_by_number.Goals as goal

pub returns : goal.returns
returns c zs = total_by_number zs
