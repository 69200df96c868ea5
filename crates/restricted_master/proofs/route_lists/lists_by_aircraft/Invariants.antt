use Rattle.restricted_master.specs.inside.Listing.{AreOwn}
use Rattle.restricted_master.proofs.route_lists.lists_by_aircraft.Given as goal

-- the routes so far
abbrev pub invariant-loop-i : goal.invariant-loop-i
invariant-loop-i l = AreOwn l.pool l.m l.i l.lists.items
