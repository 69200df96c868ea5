use Rattle.propagator.proofs.DeadBars.{one_floor_taken}
use Rattle.propagator.proofs.laws.bars_take_one_floor.Goals as goal

pub returns : goal.returns
returns c = one_floor_taken c.floors_are_least.ensures c.least_are_floors.ensures c.brought_tells.ensures c.usable_decides.ensures c.limits_decide.ensures
