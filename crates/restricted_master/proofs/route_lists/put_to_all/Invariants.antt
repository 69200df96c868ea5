use Rattle.std.proofs.Common.{take}
use Rattle.restricted_master.specs.inside.Listing.{GrowByOne}
use Rattle.restricted_master.proofs.route_lists.put_to_all.Given as goal

-- the activities so far
abbrev pub invariant-loop-q : goal.invariant-loop-q
invariant-loop-q l = GrowByOne (take l.q l.route) l.i l.initial.lists.items l.lists.items
