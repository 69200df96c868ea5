use Rattle.tail_book.proofs.Deciding.{link_tested}
use Rattle.tail_book.proofs.laws.link_decides.Goals as goal

pub returns : goal.returns
returns c book k x b = link_tested book k x b
