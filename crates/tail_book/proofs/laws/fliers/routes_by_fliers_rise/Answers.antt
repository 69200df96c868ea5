use Rattle.tail_book.proofs.FlierLemmas.{route_rises}
use Rattle.tail_book.proofs.laws.fliers.routes_by_fliers_rise.Goals as goal

pub returns : goal.returns
returns c fliers k = route_rises fliers k
