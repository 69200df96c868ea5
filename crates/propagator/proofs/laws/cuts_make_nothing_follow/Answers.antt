use Rattle.propagator.proofs.DeadCuts.{followed_before}
use Rattle.propagator.proofs.laws.cuts_make_nothing_follow.Goals as goal

pub returns : goal.returns
returns c book marks from to dead = followed_before book marks from to dead c.cuts_take_no_floor.ensures c.alive_decides.ensures c.usable_decides.ensures c.may_end_decides.ensures
