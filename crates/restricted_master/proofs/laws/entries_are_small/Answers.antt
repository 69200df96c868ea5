use Rattle.restricted_master.proofs.PoolLeast.{entries_are_small}
use Rattle.restricted_master.proofs.laws.entries_are_small.Goals as goal

pub returns : goal.returns
returns c = entries_are_small c.reduced_costs_are_small.ensures
