use Rattle.std.proofs.Common.{◌<◌, ℕ, get_or}
use Rattle.std.specs.Prelude.{◌≤ℤ◌}
use Rattle.label_store.specs.Buckets.{row_at}
use Rattle.label_store.specs.Store.{bucket_of}
use Rattle.pricing.specs.Rows.{weight_of}
use Rattle.route_search.proofs.lightest.lightest.Given as goal

-- none of the rows at places before i weighs less
abbrev pub invariant-loop-i : goal.invariant-loop-i
invariant-loop-i l = (q : ℕ) → q < l.i → l.least ≤ℤ weight_of (row_at l.store.rows (get_or (bucket_of l.store l.x) q 0))
