use Rattle.propagator.proofs.MovedFloors.{set_keeps, set_on}
use Rattle.propagator.proofs.suspects.note_ends.Goals as goal

pub returns-clause-leave : goal.returns-clause-leave
returns-clause-leave c = set_on c.args.c c.args.leave.now c.set.new.flags c.set.ensures

pub returns-clause-arrive : goal.returns-clause-arrive
returns-clause-arrive c = set_on c.args.d c.args.arrive.now c.set-2.new.flags c.set-2.ensures

pub returns-clause-leaves : goal.returns-clause-leaves
returns-clause-leaves c = set_keeps c.args.c c.args.leave.now c.set.new.flags c.set.ensures

pub returns-clause-arrives : goal.returns-clause-arrives
returns-clause-arrives c = set_keeps c.args.d c.args.arrive.now c.set-2.new.flags c.set-2.ensures
