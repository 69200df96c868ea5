use Rattle.propagator.proofs.MovedFloors.{moves_losing}
use Rattle.propagator.proofs.settled_aircraft.settle.Goals as goal

pub returns-clause-moves : goal.returns-clause-moves
returns-clause-moves c =
    moves_losing c.args.moved.now c.renew_floors.new.moved c.args.row.now c.touch_since.new.row c.renew_floors.new.row c.bar_dead.new.row
    c.touch_since.ensures.loses c.renew_floors.ensures.moves c.bar_dead.ensures.loses
