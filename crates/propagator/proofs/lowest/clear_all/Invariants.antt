use Rattle.std.proofs.Common.{◌≡◌, ℕ, ◌<◌, None}
use Rattle.floor_rows.specs.inside.FloorRow.{floor_in, IsRowOf}
use Rattle.propagator.proofs.lowest.clear_all.Given as goal

-- there is none below a
abbrev pub invariant-loop-a : goal.invariant-loop-a
invariant-loop-a l = IsRowOf l.book l.lowest × ((b : ℕ) → b < l.a → floor_in l.lowest b ≡ None)
