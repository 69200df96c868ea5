use Rattle.tail_book.proofs.RouteBounds.{reduced_small}
use Rattle.tail_book.proofs.laws.bounds.reduced_costs_are_small.Goals as goal

pub returns : goal.returns
returns c table book sound for dual box k x route rising = reduced_small table book sound for dual box k x route rising
