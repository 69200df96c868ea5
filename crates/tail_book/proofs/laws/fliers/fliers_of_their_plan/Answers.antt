use Rattle.tail_book.proofs.FlierLemmas.{fliers_again}
use Rattle.tail_book.proofs.laws.fliers.fliers_of_their_plan.Goals as goal

pub returns : goal.returns
returns c fliers m few = fliers_again fliers m few
