use Rattle.propagator.proofs.SameFor.{all_floors_kept}
use Rattle.propagator.proofs.laws.same_floors.Goals as goal

pub returns : goal.returns
returns c = all_floors_kept
