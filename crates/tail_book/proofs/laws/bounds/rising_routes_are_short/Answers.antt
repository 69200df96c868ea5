use Rattle.tail_book.proofs.RouteBounds.{rising_short}
use Rattle.tail_book.proofs.laws.bounds.rising_routes_are_short.Goals as goal

pub returns : goal.returns
returns c n x route rising = rising_short n x route rising
