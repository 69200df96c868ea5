use Rattle.propagator.proofs.SameFor.{dead_kept}
use Rattle.propagator.proofs.laws.same_dead.Goals as goal

pub returns : goal.returns
returns c book k old new same = dead_kept book k old new same c.alive_decides.ensures c.usable_decides.ensures c.may_end_decides.ensures
