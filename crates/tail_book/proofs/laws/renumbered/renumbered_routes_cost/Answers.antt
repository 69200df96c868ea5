use Rattle.tail_book.proofs.Renumbered.{route_cost_alike}
use Rattle.tail_book.proofs.laws.renumbered.renumbered_routes_cost.Goals as goal

pub returns : goal.returns
returns c book other fleet k route others same = route_cost_alike book other fleet k route others same
