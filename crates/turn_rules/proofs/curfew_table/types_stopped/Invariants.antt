use Rattle.std.proofs.Common.{◌≡◌, ◌<◌, ℕ, take}
use Rattle.std.specs.List.{list_any}
use Rattle.turn_rules.specs.inside.NumberSet.{has}
use Rattle.turn_rules.specs.inside.CurfewTable.{stops_type}
use Rattle.turn_rules.proofs.curfew_table.types_stopped.Given as goal

-- the set has the types that the curfews so far keep from the flight
abbrev pub invariant-loop-curfew : goal.invariant-loop-curfew
invariant-loop-curfew l = (t : ℕ) → t < 32 → has l.stopped t ≡ list_any (stops_type l.book t l.a) (take l.curfew-index l.curfews)
