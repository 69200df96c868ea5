use Rattle.std.proofs.Common.{◌∙◌, ◌≡◌, ◌<◌, arith, ap, length, sym, refl}
use Rattle.std.specs.Prelude.{[], slice_index_or}
use Rattle.connection_net.specs.inside.Rows.{row_at, rows_of}
use Rattle.connection_net.proofs.RowLists.{rows_length, row_there}
use Rattle.connection_net.proofs.rows.Rows.row.Goals as goal

-- there is a start more than there are rows
pub part-requires-clause-row : goal.part-requires-clause-row
part-requires-clause-row c =
    omega (arith, rows_length c.self.inside.starts.items c.self.inside.numbers.items, ap length c.self.view_is, ap length c.deref.ensures.value)

-- the part is the row of its number
pub returns : goal.returns
returns c =
    let starts = c.self.inside.starts.items in
    let numbers = c.self.inside.numbers.items in
    let cut : row_at c.deref.result.now c.deref-2.result.now c.args.i ≡ row_at starts numbers c.args.i = rw (c.deref.ensures.value, c.deref-2.ensures.value) refl in
    let within : c.args.i < length (rows_of starts numbers) = omega (arith, ap length c.self.view_is) in
    c.part.ensures ∙ cut ∙ sym (row_there starts numbers c.args.i within) ∙ ap (λ rows. slice_index_or rows c.args.i []) c.self.view_is
