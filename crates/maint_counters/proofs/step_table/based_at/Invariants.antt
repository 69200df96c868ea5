use Rattle.std.proofs.Common.{◌≡◌, ◌<◌, ◌≤◌, ℕ, get_or}
use Rattle.std.specs.Prelude.{false}
use Rattle.tail_book.specs.Numbers.{contains}
use Rattle.turn_rules.specs.inside.NumberSet.{has}
use Rattle.maint_counters.specs.inside.StepTable.{no_counter}
use Rattle.maint_counters.proofs.step_table.based_at.Given as goal

-- the set has the counters so far that are based there, and none of the others
abbrev pub invariant-loop-c : goal.invariant-loop-c
invariant-loop-c l = record {
  so_far : (c : ℕ) → c < l.c → has l.based c ≡ contains (get_or l.counters c no_counter).bases l.port;
  others : (c : ℕ) → l.c ≤ c → has l.based c ≡ false;
}
