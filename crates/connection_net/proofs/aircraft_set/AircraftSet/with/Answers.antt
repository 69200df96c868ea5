use Rattle.connection_net.proofs.AircraftSets.{with_low, with_high}
use Rattle.connection_net.proofs.aircraft_set.AircraftSet.with.Goals as goal

pub returns-then-k-lt128 : goal.returns-then-k-lt128
returns-then-k-lt128 c = λ i. with_low c.args.self c.args.k i c.if-k-lt128.true

pub returns-else-k-lt128 : goal.returns-else-k-lt128
returns-else-k-lt128 c = λ i. with_high c.args.self c.args.k i c.if-k-lt128.false c.requires
