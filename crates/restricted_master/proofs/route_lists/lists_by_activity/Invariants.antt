use Rattle.restricted_master.specs.inside.Listing.{AreListedBy}
use Rattle.restricted_master.proofs.route_lists.lists_by_activity.Given as goal

-- the aircraft so far
abbrev pub invariant-loop-k : goal.invariant-loop-k
invariant-loop-k l = AreListedBy l.pool l.n l.k l.lists.items
