use Rattle.tail_book.proofs.FlierLemmas.{plan_again}
use Rattle.tail_book.proofs.laws.fliers.plans_of_their_fliers.Goals as goal

pub returns : goal.returns
returns c book sound plan legal = plan_again book sound plan legal
