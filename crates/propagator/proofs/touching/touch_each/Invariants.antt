use Rattle.std.proofs.Common.{take}
use Rattle.floor_rows.specs.inside.FloorRow.{IsRowOf}
use Rattle.propagator.specs.inside.Moves.{LosesFloors}
use Rattle.propagator.specs.inside.Touching.{IsTouched}
use Rattle.propagator.proofs.touching.touch_each.Given as goal

-- the row is right for the facts below i, but for what is flagged
abbrev pub invariant-loop-i : goal.invariant-loop-i
invariant-loop-i l = IsRowOf l.book l.row × IsTouched l.book (take l.i l.marks.facts) l.k l.row l.due l.ask × LosesFloors l.initial.row l.row
