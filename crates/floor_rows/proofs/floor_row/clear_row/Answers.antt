use Rattle.floor_rows.proofs.KeptFloors.{kept_clear, cleared_is}
use Rattle.floor_rows.proofs.floor_row.clear_row.Goals as goal

pub returns-clause-row : goal.returns-clause-row
returns-clause-row c = cleared_is c.args.width c.args.known.now c.args.values.now c.requires.row c.args.b c.requires.place

pub returns-clause-value : goal.returns-clause-value
returns-clause-value c = kept_clear c.args.width c.args.b c.args.known.now c.args.values.now
