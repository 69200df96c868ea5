use Rattle.tail_book.proofs.TableBounds.{route_most_in}
use Rattle.tail_book.proofs.laws.bounds.routes_cost_at_most_in.Goals as goal

pub returns : goal.returns
returns c table book sound k x route = route_most_in table book sound k x route
