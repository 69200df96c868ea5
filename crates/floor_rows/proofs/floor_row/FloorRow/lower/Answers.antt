use Rattle.std.proofs.Common.{ap, arith, length}
use Rattle.floor_rows.specs.inside.FloorRow.{FloorRowSeen}
use Rattle.floor_rows.proofs.KeptFloors.{kept_length}
use Rattle.floor_rows.proofs.floor_row.FloorRow.lower.Goals as goal

pub lower_row-requires-clause-place : goal.lower_row-requires-clause-place
lower_row-requires-clause-place c =
    let all = kept_length c.self.inside.width c.self.inside.known.items c.self.inside.values.items in
    let seen = ap (λ (row : FloorRowSeen). length row.floors) c.self.view_is in
    omega (arith, all, seen)
