use Rattle.std.proofs.Common.{◌≡◌, ◌<◌, ℕ, length, get_or}
use Rattle.connection_net.specs.inside.LinkTable.{AreTurnedIn, no_set}
use Rattle.connection_net.proofs.link_table.all_turned.Given as goal

-- the stops so far have their sets
abbrev pub invariant-loop-stop : goal.invariant-loop-stop
invariant-loop-stop l = record {
  count : length l.sets.items ≡ l.stop;
  each : (stop : ℕ) → stop < l.stop → AreTurnedIn l.book stop (get_or l.sets.items stop no_set);
}
