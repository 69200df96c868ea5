use Rattle.propagator.proofs.RisingFloors.{floors_rise}
use Rattle.propagator.proofs.laws.floors_rise.Goals as goal

pub returns : goal.returns
returns c book sound marks more k hk b lt values e =
    floors_rise c.floors_are_low.ensures c.floors_are_least.ensures c.each_at_most_chains.ensures c.steps_keep_order.ensures c.lower_stays_within.ensures
    c.usable_decides.ensures c.limits_decide.ensures book sound marks more k hk c.each_at_most_itself.ensures b lt values e
