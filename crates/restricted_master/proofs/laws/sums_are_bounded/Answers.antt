use Rattle.restricted_master.proofs.PoolLeast.{sums_are_bounded}
use Rattle.restricted_master.proofs.laws.sums_are_bounded.Goals as goal

pub returns : goal.returns
returns c = sums_are_bounded c.least_in_is_least.ensures c.reduced_costs_are_small.ensures
