use Rattle.std.proofs.Common.{◌+◌, ◌-◌, ◌/◌, ◌∙◌, arith, sym, ap, subst, length, replicate}
use Rattle.std.proofs.lemmas.List.{length-append, length-replicate}
use Rattle.label_cells.specs.Seen.{CellsSeen}
use Rattle.label_cells.specs.Cutting.{rows_in}
use Rattle.label_cells.specs.inside.Chunks.{AreChunks, stacked, empty_chunk}
use Rattle.label_cells.proofs.Chunks.{filled_room, grown_chunks, grown_stacked}
use Rattle.label_cells.proofs.cells.Cells.reserve.Goals as goal

-- the chunks that are claimed stand behind the others
pub invariant_of-self-2 : goal.invariant_of-self-2
invariant_of-self-2 c =
    subst (AreChunks c.self.inside.width c.self.inside.count) (sym c.in_ok-claim_chunks.ensures.ok)
    (grown_chunks _ _ _ _ c.self.invariant c.in_ok-claim_chunks.ensures.few)

-- and are as many as are missing
pub returns-clause-spare : goal.returns-clause-spare
returns-clause-spare c =
    let claimed = replicate ((c.args.n - c.spare-spare.result - 1) / 1024 + 1) (empty_chunk c.self.inside.width) in
    let long = ap length c.in_ok-claim_chunks.ensures.ok ∙ length-append c.self.inside.chunks.items claimed in
    let more = length-replicate ((c.args.n - c.spare-spare.result - 1) / 1024 + 1) (empty_chunk c.self.inside.width) in
    let spare = c.spare-spare.ensures ∙ sym (ap (λ (s : CellsSeen). s.spare) c.self.view_is) in
    let room = filled_room _ _ _ c.self.invariant.filled in
    omega (arith, long, more, spare, room, c.if-n-spare.false)

-- without any values
pub returns-clause-same_rows : goal.returns-clause-same_rows
returns-clause-same_rows c =
    ap (rows_in c.self.inside.width c.self.inside.count)
    (ap stacked c.in_ok-claim_chunks.ensures.ok ∙ grown_stacked c.self.inside.width _ c.self.inside.chunks.items)
    ∙ ap (λ (s : CellsSeen). s.rows) c.self.view_is
