use Rattle.tail_book.proofs.Deciding.{legal_plan_tested}
use Rattle.tail_book.proofs.laws.legal_plan_decides.Goals as goal

pub returns : goal.returns
returns c book plan = legal_plan_tested book plan
