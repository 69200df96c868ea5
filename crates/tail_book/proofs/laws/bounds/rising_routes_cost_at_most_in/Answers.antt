use Rattle.tail_book.proofs.RouteBounds.{rising_most_in}
use Rattle.tail_book.proofs.laws.bounds.rising_routes_cost_at_most_in.Goals as goal

pub returns : goal.returns
returns c table book sound for k x route rising = rising_most_in table book sound for k x route rising
