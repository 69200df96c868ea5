use Rattle.std.proofs.Common.{◌≡◌, ◌<◌, ℕ, length, get_or, pos}
use Rattle.tail_book.specs.Lookup.{tail_of}
use Rattle.maint_counters.proofs.step_table.ready_minutes.Given as goal

-- the aircraft so far have their minutes
abbrev pub invariant-loop-k : goal.invariant-loop-k
invariant-loop-k l = record {
  count : length l.minutes.items ≡ l.k;
  each : (k : ℕ) → k < l.k → get_or l.minutes.items k (pos 0) ≡ (tail_of l.book k).ready;
}
