use Rattle.restricted_master.proofs.PoolLeast.{weights_are_small}
use Rattle.restricted_master.proofs.laws.weights_are_small.Goals as goal

pub returns : goal.returns
returns c = weights_are_small c.least_in_is_least.ensures c.reduced_costs_are_small.ensures
