use Rattle.std.proofs.Common.{◌≡◌, ◌<◌, ◌≤◌, ◌*◌, ◌-◌, ◌/◌, ◌∙◌, arith, sym, ap, length, take, set}
use Rattle.std.proofs.lemmas.Nat.{mul-le}
use Rattle.std.proofs.lemmas.List.{length-set}
use Rattle.label_cells.specs.Seen.{CellsSeen}
use Rattle.label_cells.specs.inside.Chunks.{stacked}
use Rattle.label_cells.proofs.Cutting.{length-rows_in}
use Rattle.label_cells.proofs.Chunks.{filled_room, chunk_room, cut_chunks, cut_rows}
use Rattle.label_cells.proofs.cells.Cells.shorten.Goals as goal

-- there are rows, and a chunk for the last of them
pub overflow_sub-last : goal.overflow_sub-last
overflow_sub-last c =
    let rows : length c.args.self.now.rows ≡ c.self.inside.count = sym (ap (λ (s : CellsSeen). length s.rows) c.self.view_is) ∙ length-rows_in _ _ _ in
    omega (arith, c.requires, rows)

pub index_mut-chunk-requires : goal.index_mut-chunk-requires
index_mut-chunk-requires c =
    let rows : length c.args.self.now.rows ≡ c.self.inside.count = sym (ap (λ (s : CellsSeen). length s.rows) c.self.view_is) ∙ length-rows_in _ _ _ in
    let room = filled_room _ _ _ c.self.invariant.filled in
    omega (arith, c.requires, rows, room)

pub overflow_mul-kept : goal.overflow_mul-kept
overflow_mul-kept c =
    let rows : length c.args.self.now.rows ≡ c.self.inside.count = sym (ap (λ (s : CellsSeen). length s.rows) c.self.view_is) ∙ length-rows_in _ _ _ in
    let few : c.max-kept.result - (c.self.inside.count - 1) / 1024 * 1024 ≤ 1024 = omega (arith, c.requires, rows, c.max-kept.ensures) in
    let within = mul-le (c.max-kept.result - (c.self.inside.count - 1) / 1024 * 1024) c.self.inside.width 1024 c.self.inside.width few (omega arith) in
    omega (arith, within, c.self.invariant.fits)

-- in which the first of the kept rows that it has come first
pub cut-requires : goal.cut-requires
cut-requires c =
    let rows : length c.args.self.now.rows ≡ c.self.inside.count = sym (ap (λ (s : CellsSeen). length s.rows) c.self.view_is) ∙ length-rows_in _ _ _ in
    let room = filled_room _ _ _ c.self.invariant.filled in
    let inside : (c.self.inside.count - 1) / 1024 < length c.self.inside.chunks.items = omega (arith, c.requires, rows, room) in
    chunk_room _ _ _ c.self.invariant ((c.self.inside.count - 1) / 1024) (c.max-kept.result - (c.self.inside.count - 1) / 1024 * 1024) _ inside
    c.index_mut-chunk.ensures.value (omega (arith, c.requires, rows, c.max-kept.ensures)) (omega (arith, c.requires, rows, c.max-kept.ensures))

pub invariant_of-self : goal.invariant_of-self
invariant_of-self c =
    let rows : length c.args.self.now.rows ≡ c.self.inside.count = sym (ap (λ (s : CellsSeen). length s.rows) c.self.view_is) ∙ length-rows_in _ _ _ in
    let room = filled_room _ _ _ c.self.invariant.filled in
    let inside : (c.self.inside.count - 1) / 1024 < length c.self.inside.chunks.items = omega (arith, c.requires, rows, room) in
    cut_chunks _ _ _ c.self.invariant ((c.self.inside.count - 1) / 1024) (c.max-kept.result - (c.self.inside.count - 1) / 1024 * 1024) _ inside
    c.index_mut-chunk.ensures.value c.max-kept.result _ (omega (arith, c.max-kept.ensures)) (omega (arith, c.requires, rows, c.max-kept.ensures))
    (omega (arith, c.requires, rows)) c.cut.ensures

-- what is left are the first rows
pub returns-clause-rows : goal.returns-clause-rows
returns-clause-rows c =
    let rows : length c.args.self.now.rows ≡ c.self.inside.count = sym (ap (λ (s : CellsSeen). length s.rows) c.self.view_is) ∙ length-rows_in _ _ _ in
    let room = filled_room _ _ _ c.self.invariant.filled in
    let inside : (c.self.inside.count - 1) / 1024 < length c.self.inside.chunks.items = omega (arith, c.requires, rows, room) in
    cut_rows _ _ _ c.self.invariant ((c.self.inside.count - 1) / 1024) (c.max-kept.result - (c.self.inside.count - 1) / 1024 * 1024) _ inside
    c.index_mut-chunk.ensures.value c.max-kept.result _ (omega (arith, c.max-kept.ensures)) (omega (arith, c.requires, rows, c.max-kept.ensures))
    (omega (arith, c.requires, rows)) c.cut.ensures
    ∙ ap (λ (s : CellsSeen). take c.max-kept.result s.rows) c.self.view_is
    ∙ ap (λ n. take n c.args.self.now.rows) (sym (length-rows_in _ _ _))

pub returns-clause-fewer : goal.returns-clause-fewer
returns-clause-fewer c =
    let rows : length c.args.self.now.rows ≡ c.self.inside.count = sym (ap (λ (s : CellsSeen). length s.rows) c.self.view_is) ∙ length-rows_in _ _ _ in
    omega (arith, c.requires, rows, c.max-kept.ensures, length-rows_in c.self.inside.width c.max-kept.result (stacked (set c.self.inside.chunks.items ((c.self.inside.count - 1) / 1024) c.cut.new.self)))

pub returns-clause-kept : goal.returns-clause-kept
returns-clause-kept c = omega (arith, c.max-kept.ensures, length-rows_in c.self.inside.width c.max-kept.result (stacked (set c.self.inside.chunks.items ((c.self.inside.count - 1) / 1024) c.cut.new.self)))

-- and their room is spare
pub returns-clause-spare : goal.returns-clause-spare
returns-clause-spare c =
    let rows : length c.args.self.now.rows ≡ c.self.inside.count = sym (ap (λ (s : CellsSeen). length s.rows) c.self.view_is) ∙ length-rows_in _ _ _ in
    let room = filled_room _ _ _ c.self.invariant.filled in
    let spare = ap (λ (s : CellsSeen). s.spare) c.self.view_is in
    omega (arith, c.requires, rows, room, spare, c.max-kept.ensures, length-rows_in c.self.inside.width c.max-kept.result (stacked (set c.self.inside.chunks.items ((c.self.inside.count - 1) / 1024) c.cut.new.self)), length-set c.self.inside.chunks.items ((c.self.inside.count - 1) / 1024) c.cut.new.self)
