use Rattle.std.proofs.Common.{◌≤◌, length}
use Rattle.route_search.proofs.rest.keep.Given as goal

-- what was kept stands before what is looked at
abbrev pub invariant-loop-i : goal.invariant-loop-i
invariant-loop-i l = record {
  few : l.kept ≤ l.i;
  room : l.i-end ≤ length l.rests.items;
}
