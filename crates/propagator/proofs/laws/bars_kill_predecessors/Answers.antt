use Rattle.propagator.proofs.DeadBars.{dead_apart}
use Rattle.propagator.proofs.laws.bars_kill_predecessors.Goals as goal

pub returns : goal.returns
returns c book marks k a dead x apart out =
    dead_apart c.bars_take_one_floor.ensures c.predecessors_are_links.ensures c.alive_decides.ensures c.usable_decides.ensures c.may_end_decides.ensures
    book marks k a dead x apart out
