use Rattle.std.proofs.Common.{arith, sym}
use Rattle.std.proofs.Math.Numerals.{add-one}
use Rattle.tail_book.specs.CostTable.{activity_costs}
use Rattle.tail_book.proofs.Rows.{rows_more}
use Rattle.tail_book.proofs.cost_table.costs_of_all.Goals as goal

-- the next aircraft's costs stand last
pub loop-k-preserved : goal.loop-k-preserved
loop-k-preserved c =
    rw (c.in_ok-add_costs.ensures, c.loop-k.invariant, add-one c.loop-k.k) (sym (rows_more (activity_costs c.args.book.now) 0 c.loop-k.k c.loop-k.k (omega arith)))
