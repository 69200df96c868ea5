use Rattle.std.proofs.Common.{arith}
use Rattle.restricted_master.proofs.Listing.{own_more}
use Rattle.restricted_master.proofs.route_lists.lists_by_aircraft.Goals as goal

-- one route more
pub loop-i-preserved : goal.loop-i-preserved
loop-i-preserved c =
    own_more c.args.pool.now c.args.m c.loop-i.i c.loop-i.lists.items c.put.new.lists.items c.aircraft.result c.loop-i.invariant
    c.aircraft.ensures (omega (arith, c.aircraft.ensures, c.requires c.loop-i.i (omega arith))) c.in_ok-put.ensures.put
