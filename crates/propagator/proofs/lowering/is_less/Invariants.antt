use Rattle.std.proofs.Common.{◌≡◌, drop}
use Rattle.branch_marks.specs.Floors.{lesser}
use Rattle.propagator.proofs.lowering.is_less.Given as goal

-- those from c on decide
abbrev pub invariant-loop-c : goal.invariant-loop-c
invariant-loop-c l = lesser (drop l.c l.least) (drop l.c l.values) ≡ drop l.c l.least → lesser l.least l.values ≡ l.least
