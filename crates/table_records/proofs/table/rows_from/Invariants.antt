use Rattle.std.proofs.Common.{◌≡◌, ◌+◌, ◌-◌, ◌≤◌, length}
use Rattle.tail_text.specs.inside.Joined.{joined}
use Rattle.table_records.specs.Table.{rows_from}
use Rattle.table_records.proofs.table.rows_from.Given as goal

-- the rows so far stand before what the records give that are left
abbrev pub invariant-loop-rows : goal.invariant-loop-rows
invariant-loop-rows g l = (length l.rows.items ≤ g.R.Row.layout.limit)
    × (rows_from g.R.Row.layout 2 g.R.Row.layout.limit l.fn.records
    ≡ joined l.rows.items (rows_from g.R.Row.layout (length l.rows.items + 2) (g.R.Row.layout.limit - length l.rows.items) l.records))

abbrev pub decreases-loop-rows : goal.decreases-loop-rows
decreases-loop-rows g l = length l.records
