use Rattle.std.proofs.Common.{take}
use Rattle.restricted_master.specs.inside.Listing.{GrowBy}
use Rattle.restricted_master.proofs.route_lists.put_each.Given as goal

-- the routes so far
abbrev pub invariant-loop-q : goal.invariant-loop-q
invariant-loop-q l = GrowBy l.pool (take l.q l.numbers) l.initial.lists.items l.lists.items
