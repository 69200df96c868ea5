use Rattle.cert_checker.proofs.KeptFloors.{below_stay}
use Rattle.cert_checker.proofs.laws.floors_below_stay.Goals as goal

pub returns : goal.returns
returns c = below_stay c.floors_are_least.ensures c.brought_tells.ensures
