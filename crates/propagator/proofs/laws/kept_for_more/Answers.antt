use Rattle.propagator.proofs.SeenFront.{kept_on}
use Rattle.propagator.proofs.laws.kept_for_more.Goals as goal

pub returns : goal.returns
returns c book facts more kept is = kept_on book facts more kept is
