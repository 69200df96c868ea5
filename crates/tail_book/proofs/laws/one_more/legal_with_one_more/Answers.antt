use Rattle.tail_book.proofs.OneMore.{legal_more}
use Rattle.tail_book.proofs.laws.one_more.legal_with_one_more.Goals as goal

pub returns : goal.returns
returns c book k route b = legal_more book k b route
