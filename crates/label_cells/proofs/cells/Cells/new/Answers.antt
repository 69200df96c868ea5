use Rattle.std.proofs.Common.{arith, refl, sym, subst}
use Rattle.label_cells.specs.Cutting.{rows_in}
use Rattle.label_cells.specs.inside.Chunks.{AreChunks}
use Rattle.label_cells.proofs.Chunks.{no_chunks}
use Rattle.label_cells.proofs.cells.Cells.new.Goals as goal

-- no chunk has no rows
pub invariant_of-result : goal.invariant_of-result
invariant_of-result c =
    subst (AreChunks c.args.width 0) (sym c.new.ensures.items) (no_chunks c.args.width c.requires (omega (arith, c.if-width.false)))

pub returns : goal.returns
unfolding rows_in
returns c = rw c.new.ensures.items refl
