use Rattle.std.proofs.Common.{◌≡◌, ◌<◌, ℕ, length, get_or}
use Rattle.connection_net.specs.inside.LinkTable.{IsLegOf, no_leg}
use Rattle.connection_net.proofs.link_table.all_legs.Given as goal

-- the activities so far have their rows
abbrev pub invariant-loop-a : goal.invariant-loop-a
invariant-loop-a l = record {
  count : length l.legs.items ≡ l.a;
  each : (a : ℕ) → a < l.a → IsLegOf l.book a (get_or l.legs.items a no_leg);
}
