use Rattle.std.proofs.Common.{arith}
use Rattle.label_cells.proofs.Chunks.{filled_room}
use Rattle.label_cells.proofs.cells.Cells.spare.Goals as goal

-- there is room for all rows
pub overflow_sub-result : goal.overflow_sub-result
overflow_sub-result c =
    let room = filled_room _ _ _ c.self.invariant.filled in
    omega (arith, room)
