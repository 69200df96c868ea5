use Rattle.std.proofs.Common.{◌∙◌, sym, ap, length}
use Rattle.label_cells.specs.Seen.{CellsSeen}
use Rattle.label_cells.proofs.Cutting.{length-rows_in}
use Rattle.label_cells.proofs.cells.Cells.len.Goals as goal

-- as many as were counted
pub returns : goal.returns
returns c = sym (length-rows_in _ _ _) ∙ ap (λ (s : CellsSeen). length s.rows) c.self.view_is
