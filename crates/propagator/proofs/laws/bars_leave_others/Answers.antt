use Rattle.propagator.proofs.SameFor.{bar_leaves}
use Rattle.propagator.proofs.laws.bars_leave_others.Goals as goal

pub returns : goal.returns
returns c = bar_leaves
