use Rattle.propagator.proofs.DeadCuts.{no_floor_taken}
use Rattle.propagator.proofs.laws.cuts_take_no_floor.Goals as goal

pub returns : goal.returns
returns c book marks from to dead = no_floor_taken book marks from to dead c.floors_are_least.ensures c.least_are_floors.ensures c.brought_tells.ensures c.usable_decides.ensures c.limits_decide.ensures
