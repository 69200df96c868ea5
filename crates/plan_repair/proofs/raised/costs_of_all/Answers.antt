use Rattle.std.proofs.Common.{arith, sym}
use Rattle.std.proofs.Math.Numerals.{add-one}
use Rattle.tail_book.proofs.Rows.{rows_more}
use Rattle.plan_repair.specs.inside.Raised.{raised_costs}
use Rattle.plan_repair.proofs.raised.costs_of_all.Goals as goal

-- the next aircraft's costs stand last
pub loop-k-preserved : goal.loop-k-preserved
loop-k-preserved c =
    rw (c.in_ok-add_costs.ensures, c.loop-k.invariant, add-one c.loop-k.k)
    (sym (rows_more (raised_costs c.args.table.now c.args.homes.now c.args.raise) 0 c.loop-k.k c.loop-k.k (omega arith)))
