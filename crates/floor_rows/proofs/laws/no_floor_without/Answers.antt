use Rattle.floor_rows.proofs.Brought.{none_without}
use Rattle.floor_rows.proofs.laws.no_floor_without.Goals as goal

pub returns : goal.returns
returns c = none_without c.floors_are_least.ensures
