use Rattle.std.proofs.Common.{◌≡◌, [], replicate}
use Rattle.restricted_master.proofs.route_lists.empty_lists.Given as goal

-- one empty list for each so far
abbrev pub invariant-loop-list : goal.invariant-loop-list
invariant-loop-list l = l.lists.items ≡ replicate l._list []
