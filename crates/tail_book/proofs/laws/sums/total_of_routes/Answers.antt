use Rattle.tail_book.proofs.Partition.{total_of_routes}
use Rattle.tail_book.proofs.laws.sums.total_of_routes.Goals as goal

pub returns : goal.returns
returns c f plan = total_of_routes f plan
