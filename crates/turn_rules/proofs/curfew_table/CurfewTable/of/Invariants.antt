use Rattle.std.proofs.Common.{◌≡◌, ◌<◌, ℕ, length, get_or}
use Rattle.turn_rules.specs.inside.NumberSet.{has}
use Rattle.turn_rules.specs.inside.CurfewTable.{is_type_curfewed, no_types}
use Rattle.turn_rules.proofs.curfew_table.CurfewTable.of.Given as goal

-- the activities so far have their sets
abbrev pub invariant-loop-a : goal.invariant-loop-a
invariant-loop-a l = record {
  sets : length l.closed.items ≡ l.a;
  each : (t a : ℕ) → t < length l.book.rules.kinds → a < l.a → has (get_or l.closed.items a no_types) t ≡ is_type_curfewed l.book t a;
}
