use Rattle.tail_book.proofs.Along.{legal_along}
use Rattle.tail_book.proofs.laws.along.legal_is_legal_along.Goals as goal

pub returns : goal.returns
returns c book k route = legal_along book k route
