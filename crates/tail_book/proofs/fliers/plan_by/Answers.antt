use Rattle.tail_book.proofs.InTurn.{route_turn}
use Rattle.tail_book.proofs.fliers.plan_by.Goals as goal

pub loop-k-preserved : goal.loop-k-preserved
loop-k-preserved c =
    rw c.in_ok-push.ensures.items
    (route_turn c.loop-k.k c.args.count c.args.fliers.now _ c.loop-k.routes.items c.in_ok-route_by.field-0 c.loop-k-test.true c.in_ok-route_by.ensures c.loop-k.invariant)
