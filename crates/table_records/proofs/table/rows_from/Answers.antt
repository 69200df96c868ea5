use Rattle.std.proofs.Common.{◌≡◌, ◌-◌, ◌<◌, ap, length, rules, arith, Ok, Err}
use Rattle.table_records.specs.Table.{record_of}
use Rattle.table_records.proofs.RowLemmas.{record_of-room, turn-bad, turn-end, turn-good}
use Rattle.table_records.proofs.table.rows_from.Goals as goal

pub returns-clause-exact : goal.returns-clause-exact
returns-clause-exact g c = turn-end _ _ _ _ c.loop-rows.invariant.1 (rw c.if-branch.false at c.in_ok-take.ensures.taken)

pub returns-in-Err-Code-clause-exact : goal.returns-in-Err-Code-clause-exact
returns-in-Err-Code-clause-exact g c =
    let taken = rw c.if-branch.true at c.in_ok-take.ensures.taken in
    let bad = rw c.in-Err-Code.field-0-is at c.in-Err-Code.ensures in
    let fits : record_of g.R.Row.layout (g.R.Row.layout.limit - length c.loop-rows.rows.items) c.take.new.fields ≡ Err c.in-Err-Code.code = search rules in
    let place : c.len-in-Err-Code.result ≡ length c.loop-rows.rows.items = search rules in
    rw (c.refused.ensures, c.in-Err-Code.field-0-is, place) (turn-bad _ _ _ _ c.loop-rows.invariant.1 _ _ _ taken fits)

pub loop-rows-preserved : goal.loop-rows-preserved
loop-rows-preserved g c =
    let taken = rw c.if-branch.true at c.in_ok-take.ensures.taken in
    let row : record_of g.R.Row.layout (g.R.Row.layout.limit - length c.loop-rows.rows.items) c.take.new.fields ≡ Ok c.in-Ok.row = search rules in
    let room : 0 < g.R.Row.layout.limit - length c.loop-rows.rows.items = record_of-room g.R.Row.layout _ _ _ row in
    let items = rw c.if-is_err.ensures.negation at c.push.ensures.items in
    (omega (arith, c.push.ensures.len, ap length items, room), rw items (turn-good _ _ _ _ c.loop-rows.invariant.1 _ _ _ taken row))
