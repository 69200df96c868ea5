use Rattle.std.proofs.Common.{arith, sym}
use Rattle.std.proofs.Math.Numerals.{add-one}
use Rattle.turn_rules.specs.inside.PermissionTable.{allowed_to}
use Rattle.tail_book.proofs.Rows.{rows_more}
use Rattle.turn_rules.proofs.permission_table.all_rows.Goals as goal

-- the next aircraft's answers stand last
pub loop-k-preserved : goal.loop-k-preserved
loop-k-preserved c =
    rw (c.in_ok-add_row.ensures, c.loop-k.invariant, add-one c.loop-k.k) (sym (rows_more (allowed_to c.args.book.now) 0 c.loop-k.k c.loop-k.k (omega arith)))
