use Rattle.std.proofs.Common.{◌≡◌, ◌<◌, ◌≤◌, ◌+◌, ◌*◌, ◌/◌, ◌%◌, ◌∙◌, rules, arith, sym, ap, subst, take, drop, length, get_or, []}
use Rattle.std.specs.Vec.{vec_len}
use Rattle.std.proofs.lemmas.List.{get_or_default}
use Rattle.label_cells.specs.Seen.{CellsSeen, ChunkSeen}
use Rattle.label_cells.proofs.Cutting.{length-rows_in, row_in}
use Rattle.label_cells.proofs.Chunks.{no_chunk, filled_room, place_inside, place_values}
use Rattle.label_cells.proofs.cells.Cells.row.Goals as goal

-- there is a chunk for each row
pub index-chunk-requires : goal.index-chunk-requires
index-chunk-requires c =
    let rows : length c.args.self.now.rows ≡ c.self.inside.count = sym (ap (λ (s : CellsSeen). length s.rows) c.self.view_is) ∙ length-rows_in _ _ _ in
    let room = filled_room _ _ _ c.self.invariant.filled in
    let len : vec_len c.self.inside.chunks ≡ length c.self.inside.chunks.items = search rules in
    omega (arith, c.requires, rows, room, len)

-- in which it has its place
pub part_of-requires : goal.part_of-requires
part_of-requires c =
    let rows : length c.args.self.now.rows ≡ c.self.inside.count = sym (ap (λ (s : CellsSeen). length s.rows) c.self.view_is) ∙ length-rows_in _ _ _ in
    let room = filled_room _ _ _ c.self.invariant.filled in
    let within : c.args.i / 1024 < length c.self.inside.chunks.items = omega (arith, c.requires, rows, room) in
    let chunk = c.index-chunk.ensures ∙ get_or_default c.self.inside.chunks.items (c.args.i / 1024) _ no_chunk within in
    let inside = place_inside c.self.inside.width _ c.self.inside.chunks.items (c.args.i / 1024) (c.args.i % 1024) c.self.invariant.filled (omega arith) (omega (arith, c.requires, rows)) in
    subst (λ v. c.args.i % 1024 * c.self.inside.width + c.self.inside.width ≤ length v) (sym (c.values.ensures ∙ ap (λ (s : ChunkSeen). s.values) chunk)) inside

-- and its values there are those of all rows
pub returns-clause-values : goal.returns-clause-values
returns-clause-values c =
    let rows : length c.args.self.now.rows ≡ c.self.inside.count = sym (ap (λ (s : CellsSeen). length s.rows) c.self.view_is) ∙ length-rows_in _ _ _ in
    let room = filled_room _ _ _ c.self.invariant.filled in
    let within : c.args.i / 1024 < length c.self.inside.chunks.items = omega (arith, c.requires, rows, room) in
    let chunk = c.index-chunk.ensures ∙ get_or_default c.self.inside.chunks.items (c.args.i / 1024) _ no_chunk within in
    let below : c.args.i < c.self.inside.count = omega (arith, c.requires, rows) in
    c.part_of.ensures.values
    ∙ ap (λ v. take c.self.inside.width (drop (c.args.i % 1024 * c.self.inside.width) v)) (c.values.ensures ∙ ap (λ (s : ChunkSeen). s.values) chunk)
    ∙ place_values c.self.inside.width _ c.self.inside.chunks.items c.args.i (c.args.i / 1024) (c.args.i % 1024) c.self.invariant.filled (omega arith) (omega arith) below
    ∙ sym (row_in _ _ _ c.args.i below) ∙ ap (λ (s : CellsSeen). get_or s.rows c.args.i []) c.self.view_is
