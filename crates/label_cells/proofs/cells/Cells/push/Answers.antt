use Rattle.std.proofs.Common.{◌<◌, ◌/◌, ◌%◌, ◌++◌, ◌∷◌, [], ◌∙◌, arith, sym, ap, length}
use Rattle.label_cells.specs.Seen.{CellsSeen}
use Rattle.label_cells.proofs.Cutting.{length-rows_in}
use Rattle.label_cells.proofs.Chunks.{room_for_row, pushed_chunks, pushed_rows}
use Rattle.label_cells.proofs.cells.Cells.push.Goals as goal

-- a chunk has room for the row, since one is spare
pub put_all-requires : goal.put_all-requires
put_all-requires c =
    let spare = ap (λ (s : CellsSeen). s.spare) c.self.view_is in
    let inside : c.self.inside.count / 1024 < length c.self.inside.chunks.items = omega (arith, spare, c.requires.spare) in
    let width = ap (λ (s : CellsSeen). s.width) c.self.view_is in
    let room = room_for_row _ _ _ c.self.invariant (c.self.inside.count / 1024) (c.self.inside.count % 1024) _ inside c.index_mut-chunk.ensures.value (omega arith) (omega arith) in
    omega (arith, room, c.requires.width, width)

-- the row is put there
pub invariant_of-self : goal.invariant_of-self
invariant_of-self c =
    let spare = ap (λ (s : CellsSeen). s.spare) c.self.view_is in
    let inside : c.self.inside.count / 1024 < length c.self.inside.chunks.items = omega (arith, spare, c.requires.spare) in
    let width = ap (λ (s : CellsSeen). s.width) c.self.view_is in
    pushed_chunks _ _ _ c.self.invariant (c.self.inside.count / 1024) (c.self.inside.count % 1024) _ inside c.index_mut-chunk.ensures.value
    c.args.row.now _ (c.requires.width ∙ sym width) (omega arith) (omega arith) c.put_all.ensures

-- under the number of the rows before it
pub returns-clause-number : goal.returns-clause-number
returns-clause-number c = sym (length-rows_in _ _ _) ∙ ap (λ (s : CellsSeen). length s.rows) c.self.view_is

pub returns-clause-rows : goal.returns-clause-rows
returns-clause-rows c =
    let spare = ap (λ (s : CellsSeen). s.spare) c.self.view_is in
    let inside : c.self.inside.count / 1024 < length c.self.inside.chunks.items = omega (arith, spare, c.requires.spare) in
    let width = ap (λ (s : CellsSeen). s.width) c.self.view_is in
    pushed_rows _ _ _ c.self.invariant (c.self.inside.count / 1024) (c.self.inside.count % 1024) _ inside c.index_mut-chunk.ensures.value
    c.args.row.now _ (c.requires.width ∙ sym width) (omega arith) (omega arith) c.put_all.ensures
    ∙ ap (λ (s : CellsSeen). s.rows ++ c.args.row.now ∷ []) c.self.view_is
