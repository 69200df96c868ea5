use Rattle.cert_checker.proofs.KeptFloors.{AreTurned, GivesUp}
use Rattle.cert_checker.proofs.kept_floors.KeptRows.give_up.Given as goal

-- the rows below i are done
abbrev pub invariant-loop-i : goal.invariant-loop-i
invariant-loop-i l = AreTurned (GivesUp l.fact) l.i l.initial.self.rows.items l.self.rows.items
