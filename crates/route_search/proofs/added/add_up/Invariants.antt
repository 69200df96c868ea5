use Rattle.std.proofs.Common.{◌≡◌, ◌<◌, ℕ, pos, length, slice_index_or}
use Rattle.route_search.specs.inside.Task.{IsAdded}
use Rattle.route_search.proofs.added.add_up.Given as goal

-- each activity before b has its own
abbrev pub invariant-loop-b : goal.invariant-loop-b
invariant-loop-b l = record {
  one_each : length l.added ≡ length l.fn.added;
  each : (a : ℕ) → a < l.b → IsAdded l.table l.k l.duals.values a (slice_index_or l.added a (pos 0));
}
