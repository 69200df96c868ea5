use Rattle.tail_book.proofs.Costs.{route_most}
use Rattle.tail_book.proofs.laws.bounds.routes_cost_at_most.Goals as goal

pub returns : goal.returns
returns c book sound k x route below = route_most book sound k x route below
