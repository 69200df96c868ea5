use Rattle.std.proofs.Common.{◌≡◌, ◌≤◌, ℕ, ◌+◌, ◌<◌, length}
use Rattle.std.specs.Prelude.{None, slice_index_or}
use Rattle.tail_book.specs.Lookup.{activities}
use Rattle.route_search.specs.inside.Completion.{IsBehind}
use Rattle.route_search.proofs.completion.complete.Given as goal

-- the last activities, so many as are done, have theirs
abbrev pub invariant-loop-done : goal.invariant-loop-done
invariant-loop-done l = record {
  one_each : length l.behind ≡ activities l.task.book.now;
  each : (a : ℕ) → l.n ≤ a + l.done → a < l.n → IsBehind l.task.table.now l.task.book.now l.task.marks.now.facts l.task.k l.task.duals.now.values a (slice_index_or l.behind a None);
}
