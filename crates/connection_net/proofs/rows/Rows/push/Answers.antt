use Rattle.std.proofs.Common.{◌∙◌, ◌≡◌, ◌-◌, arith, ap, length, rules}
use Rattle.std.specs.Prelude.{slice_index}
use Rattle.std.proofs.lemmas.Grind.{get_or_default_zero}
use Rattle.connection_net.specs.inside.Rows.{last_end}
use Rattle.connection_net.proofs.RowLists.{rows_more}
use Rattle.connection_net.proofs.rows.Rows.push.Goals as goal

-- the starts and the numbers grow by a row
pub returns : goal.returns
returns c =
    let starts = c.self.inside.starts.items in
    let count : c.len.result ≡ length starts = search rules in
    let end : c.index-end.result.now ≡ last_end starts =
    c.index-end.ensures ∙ get_or_default_zero starts (c.len.result - 1) _ (omega (arith, count)) ∙ ap (λ n. slice_index starts (n - 1)) count in
    rw (c.in_ok-push.ensures.items, c.in_ok-extend_from_slice.ensures.items, c.truncate.ensures.items, end, ← c.self.view_is)
    (rows_more starts c.self.inside.numbers.items c.args.row.now c.self.invariant)
