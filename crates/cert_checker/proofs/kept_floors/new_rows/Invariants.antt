use Rattle.cert_checker.proofs.KeptFloors.{AreNew}
use Rattle.cert_checker.proofs.kept_floors.new_rows.Given as goal

-- each row so far has no floors
abbrev pub invariant-loop-i : goal.invariant-loop-i
invariant-loop-i l = AreNew l.book l._i l.rows.items
