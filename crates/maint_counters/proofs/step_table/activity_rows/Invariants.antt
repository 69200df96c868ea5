use Rattle.std.proofs.Common.{◌≡◌, ◌<◌, ℕ, length, get_or}
use Rattle.maint_counters.specs.inside.StepTable.{IsActivityRow, no_activity_row}
use Rattle.maint_counters.proofs.step_table.activity_rows.Given as goal

-- the activities so far have their rows
abbrev pub invariant-loop-a : goal.invariant-loop-a
invariant-loop-a l = record {
  count : length l.rows.items ≡ l.a;
  each : (a : ℕ) → a < l.a → IsActivityRow l.book a (get_or l.rows.items a no_activity_row);
}
