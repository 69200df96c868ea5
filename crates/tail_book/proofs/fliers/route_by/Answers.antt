use Rattle.std.proofs.Common.{◌≡◌, [], rules}
use Rattle.tail_book.proofs.fliers.route_by.Goals as goal

-- the route as it is found, one flier after the other
pub loop-a-init : goal.loop-a-init
loop-a-init c =
    let none : c.new-route.result.items ≡ [] = search rules in
    rw none (c.routes_are_flown_in_turn.ensures c.args.k c.args.fliers.now)
