use Rattle.floor_rows.proofs.Brought.{tells}
use Rattle.floor_rows.proofs.laws.brought_tells.Goals as goal

pub returns : goal.returns
returns c = tells
