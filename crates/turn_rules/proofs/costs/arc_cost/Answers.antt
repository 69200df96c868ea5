use Rattle.std.proofs.Common.{◌≤◌, arith}
use Rattle.turn_rules.proofs.costs.arc_cost.Goals as goal

-- the connection costs no more than any band
pub overflow_add-result : goal.overflow_add-result
overflow_add-result c =
    let most : c.connection_cost.result ≤ c.args.table.now.band_max =
    c.connection_cost.ensures.most c.args.table.now.band_max (rw (c.deref.ensures.value, ← c.table.view_is) c.table.invariant.bands) in
    omega (arith, most, c.activity_cost.ensures.most, c.costs_are_small.ensures.costs)

pub returns-clause-most : goal.returns-clause-most
returns-clause-most c =
    let most : c.connection_cost.result ≤ c.args.table.now.band_max =
    c.connection_cost.ensures.most c.args.table.now.band_max (rw (c.deref.ensures.value, ← c.table.view_is) c.table.invariant.bands) in
    omega (arith, most, c.activity_cost.ensures.most, c.costs_are_small.ensures.costs)
