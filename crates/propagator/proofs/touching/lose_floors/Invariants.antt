use Rattle.std.proofs.Common.{◌≡◌, ◌<◌, ℕ, None}
use Rattle.floor_rows.specs.inside.FloorRow.{floor_in, IsRowOf}
use Rattle.propagator.specs.inside.Moves.{LosesFloors}
use Rattle.propagator.proofs.touching.lose_floors.Given as goal

-- there is no floor below a
abbrev pub invariant-loop-a : goal.invariant-loop-a
invariant-loop-a l = IsRowOf l.book l.row × LosesFloors l.initial.row l.row × ((a : ℕ) → a < l.a → floor_in l.row a ≡ None)
