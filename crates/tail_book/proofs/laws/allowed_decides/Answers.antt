use Rattle.tail_book.proofs.Deciding.{allowed_tested}
use Rattle.tail_book.proofs.laws.allowed_decides.Goals as goal

pub returns : goal.returns
returns c book k a = allowed_tested book k a
