use Rattle.std.proofs.Common.{rules}
use Rattle.maint_counters.specs.inside.StepTable.{IsActivityRow, no_activity_row}
use Rattle.tail_book.proofs.Listed.{each_more}
use Rattle.maint_counters.proofs.step_table.activity_rows.Goals as goal

-- the next row stands last
pub loop-a-preserved : goal.loop-a-preserved
loop-a-preserved c = record {
  count = search rules;
  each = rw c.in_ok-push.ensures.items
      (each_more (IsActivityRow c.args.book.now) c.loop-a.rows.items c.activity_row.result no_activity_row c.loop-a.a c.loop-a.invariant.count c.loop-a.invariant.each c.activity_row.ensures);
}
