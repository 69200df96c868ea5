use Rattle.tail_book.proofs.RouteBounds.{rising_most}
use Rattle.tail_book.proofs.laws.bounds.rising_routes_cost_at_most.Goals as goal

pub returns : goal.returns
returns c book sound k x route rising = rising_most book sound k x route rising
