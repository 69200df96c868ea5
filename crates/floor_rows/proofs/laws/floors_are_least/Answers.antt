use Rattle.floor_rows.proofs.LeastOver.{floors_least}
use Rattle.floor_rows.proofs.laws.floors_are_least.Goals as goal

pub returns : goal.returns
returns c = floors_least c.floors_come_in_turn.ensures
