use Rattle.std.proofs.Common.{◌≡◌, ◌<◌, ℕ, length, get_or}
use Rattle.maint_counters.specs.inside.StepTable.{IsCounterRow, counter_of, no_counter_row}
use Rattle.maint_counters.proofs.step_table.counter_rows.Given as goal

-- the counters so far have their rows
abbrev pub invariant-loop-c : goal.invariant-loop-c
invariant-loop-c l = record {
  count : length l.rows.items ≡ l.c;
  each : (c : ℕ) → c < l.c → IsCounterRow (counter_of l.book c) (get_or l.rows.items c no_counter_row);
}
