use Rattle.connection_net.proofs.AircraftSets.{none_has}
use Rattle.connection_net.proofs.aircraft_set.AircraftSet.none.Goals as goal

pub returns : goal.returns
returns c = none_has
