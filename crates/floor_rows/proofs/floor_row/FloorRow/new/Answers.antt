use Rattle.floor_rows.proofs.KeptFloors.{no_floors, no_floors_are}
use Rattle.floor_rows.proofs.floor_row.FloorRow.new.Goals as goal

pub invariant_of-result : goal.invariant_of-result
invariant_of-result c =
    no_floors_are c.args.width c.args.count c.in_ok-known.known.items c.in_ok-values.values.items c.requires.width c.requires.count
    c.in_ok-known.ensures c.in_ok-values.ensures

pub returns-clause-floors : goal.returns-clause-floors
returns-clause-floors c = no_floors c.args.width c.args.count c.in_ok-known.known.items c.in_ok-values.values.items c.in_ok-known.ensures
