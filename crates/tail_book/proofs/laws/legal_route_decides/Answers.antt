use Rattle.tail_book.proofs.Deciding.{legal_route_tested}
use Rattle.tail_book.proofs.laws.legal_route_decides.Goals as goal

pub returns : goal.returns
returns c book k route = legal_route_tested book k route
