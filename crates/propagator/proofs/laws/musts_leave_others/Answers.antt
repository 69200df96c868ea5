use Rattle.propagator.proofs.SameFor.{must_leaves}
use Rattle.propagator.proofs.laws.musts_leave_others.Goals as goal

pub returns : goal.returns
returns c = must_leaves
