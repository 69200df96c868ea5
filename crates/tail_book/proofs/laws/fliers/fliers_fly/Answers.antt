use Rattle.tail_book.proofs.FlierLemmas.{fliers_fly}
use Rattle.tail_book.proofs.laws.fliers.fliers_fly.Goals as goal

pub returns : goal.returns
returns c book plan legal a lt = fliers_fly book plan legal a lt
