use Rattle.tail_book.proofs.RouteBounds.{rising_below}
use Rattle.tail_book.proofs.laws.bounds.rising_routes_are_below.Goals as goal

pub returns : goal.returns
returns c n x route rising = rising_below n x route rising
