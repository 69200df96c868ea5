use Rattle.propagator.proofs.DeadBars.{dead_before}
use Rattle.propagator.proofs.laws.bars_kill_nothing_later.Goals as goal

pub returns : goal.returns
returns c = dead_before c.bars_take_one_floor.ensures c.links_rise.ensures c.alive_decides.ensures c.usable_decides.ensures c.may_end_decides.ensures
