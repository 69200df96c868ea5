use Rattle.cert_checker.proofs.KeptFloors.{AreTurned, Clears}
use Rattle.cert_checker.proofs.kept_floors.KeptRows.clear.Given as goal

-- the rows below i are done
abbrev pub invariant-loop-i : goal.invariant-loop-i
invariant-loop-i l = AreTurned Clears l.i l.initial.self.rows.items l.self.rows.items
